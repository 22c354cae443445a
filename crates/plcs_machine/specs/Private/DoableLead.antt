-- What an instruction leads to that can be done.
use Rattle.std.specs.Prelude.{◌≡◌, ◌<◌, true, List, length, IsSome}
use Rattle.plcs_store.specs.declared.frame.Frame.{Frame}
use Rattle.plcs_store.specs.Act.{Act}
use Rattle.plcs_store.specs.CellAt.{cell_at}
use Rattle.plcs_store.specs.Limit.{most_frames}
use Rattle.plcs_store.specs.Outcome.{Outcome}
use Rattle.plcs_store.specs.Undone.{loop_at}
use Rattle.plcs_machine.specs.Lead.{Lead, has_loop_room}

-- the act can be done in the frames
abbrev pub ActsOn : List Frame → Act → Type 0
ActsOn frames Act.pass = Unit {0}
ActsOn frames (Act.store location value) = IsSome (cell_at frames location)
ActsOn frames (Act.enter location value kept) = IsSome (cell_at frames location) × (has_loop_room frames ≡ true)
ActsOn frames (Act.finish location value number) = IsSome (cell_at frames location) × IsSome (loop_at number frames)
ActsOn frames (Act.read location value count) = IsSome (cell_at frames location)
ActsOn frames (Act.write output) = Unit {0}
ActsOn frames (Act.call frame) = Unit {0}
ActsOn frames Act.leave = 1 < length frames

-- what an instruction leads to can be done in the frames
abbrev pub LeadsOn : List Frame → Lead → Type 0
LeadsOn frames (Lead.goes_on address values arguments) = Unit {0}
LeadsOn frames (Lead.acts act address) = ActsOn frames act
LeadsOn frames (Lead.enters slot address arguments) = length frames < most_frames
LeadsOn frames (Lead.arrives place) = Unit {0}
LeadsOn frames Lead.ends = Unit {0}

-- what an instruction comes to can be done in the frames
abbrev pub IsDoable : List Frame → Outcome Lead → Type 0
IsDoable frames (Outcome.gives leads) = LeadsOn frames leads
IsDoable frames (Outcome.stops reason) = Unit {0}
IsDoable frames Outcome.undefined = Unit {0}
