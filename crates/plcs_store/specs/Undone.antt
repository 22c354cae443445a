-- What takes a step back, and which record of a step does.
use Rattle.std.specs.Prelude.{◌≡◌, ℕ, ◌≤◌, List, [], ◌∷◌, ◌++◌, length, take, slice_get, Option, Some, IsSome, option_and_then}
use Rattle.std.specs.List.{insert}
use Rattle.std.specs.Option.{option_map_or}
use Rattle.plcs_base.specs.declared.place.Place.{Place}
use Rattle.template_tree.specs.Positions.Place.{PlainPlace}
use Rattle.plcs_store.specs.declared.cell.Cell.{Cell}
use Rattle.plcs_store.specs.declared.cell.Location.{Location}
use Rattle.plcs_store.specs.declared.frame.Frame.{Frame}
use Rattle.plcs_store.specs.declared.kept_loop.KeptLoop.{KeptLoop}
use Rattle.plcs_store.specs.declared.undo.Undo.{Undo}
use Rattle.plcs_store.specs.Act.{Act, done, newest_at, with_newest, without_loop, without_newest}
use Rattle.plcs_store.specs.CellAt.{cell_at, newest, with_cell}
use Rattle.plcs_store.specs.Configuration.{PlainConfiguration, plain_place}

-- frames of which the newest stands at the place again, and in which a cell holds what it held
abbrev pub stored_back : Place → Location → Cell → List Frame → List Frame
stored_back place location cell frames = newest_at (plain_place place) (with_cell location cell frames)

-- a frame to which a loop is given back, which has this number then, counted from 0 at the outermost
abbrev pub with_loop_at : (number : ℕ) → KeptLoop → Frame → Frame
with_loop_at number kept frame = record frame { loops = insert frame.loops number kept }

-- the configuration before a step, by its record and the configuration after it
abbrev pub step_undone : Undo → PlainConfiguration → PlainConfiguration
step_undone Undo.Empty c = c
step_undone (Undo.Moved place) c = record c { frames = newest_at (plain_place place) c.frames }
step_undone (Undo.Stored place location cell) c = record c { frames = stored_back place location cell c.frames }
step_undone (Undo.Entered place location cell) c =
    record c { frames = with_newest without_loop (stored_back place location cell c.frames) }
step_undone (Undo.Finished place location cell kept number) c =
    record c { frames = with_newest (with_loop_at number kept) (stored_back place location cell c.frames) }
step_undone (Undo.Read place location cell taken) c =
    record c { frames = stored_back place location cell c.frames; taken = taken }
step_undone (Undo.Wrote place count) c =
    record c { frames = newest_at (plain_place place) c.frames; output = take count c.output }
step_undone (Undo.Called place) c = record c { frames = newest_at (plain_place place) (without_newest c.frames) }
step_undone (Undo.Left place frame) c = record c { frames = newest_at (plain_place place) c.frames ++ (frame ∷ []) }

-- ---- the record of a step

-- the record of a step that sets a cell, by what the cell holds
abbrev pub undo_of_cell : List Frame → Location → (Cell → Undo) → Undo
undo_of_cell frames location make = option_map_or make (cell_at frames location) Undo.Empty

-- the newest frame, if there is one, by which the record is made that takes a step back
abbrev pub newest_frame : List Frame → Option Frame
newest_frame frames = slice_get frames (newest frames)

-- the loop of this number of the newest frame, which a record of a step keeps, counted from 0 at the outermost, if
-- there is one
abbrev pub loop_at : (number : ℕ) → List Frame → Option KeptLoop
loop_at number frames = option_and_then (λ frame. slice_get frame.loops number) (newest_frame frames)

-- the newest frame, if there is one, has as many loops as one more of this number has outside it, where it is put
-- back
abbrev pub HasLoopsBefore : (number : ℕ) → List Frame → Type 0
HasLoopsBefore number frames = (frame : Frame) → newest_frame frames ≡ Some frame → number ≤ length frame.loops

-- the frame below the newest, if there is one, whose place is kept in the record of a step that leaves the newest
abbrev pub caller_of : List Frame → Option Frame
caller_of frames = newest_frame (without_newest frames)

-- the record of a step that does the act, by the newest frame and the configuration before
abbrev pub undo_in_frame : Act → Frame → PlainConfiguration → Undo
undo_in_frame Act.pass frame c = Undo.Moved frame.place
undo_in_frame (Act.store location value) frame c = undo_of_cell c.frames location (Undo.Stored frame.place location)
undo_in_frame (Act.enter location value kept) frame c =
    undo_of_cell c.frames location (Undo.Entered frame.place location)
undo_in_frame (Act.finish location value number) frame c =
    undo_of_cell c.frames location (λ cell.
    option_map_or (λ kept. Undo.Finished frame.place location cell kept number)
    (slice_get frame.loops number) Undo.Empty)
undo_in_frame (Act.read location value count) frame c =
    undo_of_cell c.frames location (λ cell. Undo.Read frame.place location cell c.taken)
undo_in_frame (Act.write output) frame c = Undo.Wrote frame.place (length c.output)
undo_in_frame (Act.call called) frame c = Undo.Called frame.place
undo_in_frame Act.leave frame c = option_map_or (λ caller. Undo.Left caller.place frame) (caller_of c.frames) Undo.Empty

-- the record of a step that does the act to a configuration; it is empty where that doesn't have what the act changes
abbrev pub undo_of : Act → PlainConfiguration → Undo
undo_of act c = option_map_or (λ frame. undo_in_frame act frame c) (newest_frame c.frames) Undo.Empty

-- a configuration with this newest frame has what the act changes, and what is written stands behind what was
abbrev pub HasPartsFor : Act → Frame → PlainConfiguration → Type 0
HasPartsFor Act.pass frame c = Unit {0}
HasPartsFor (Act.store location value) frame c = IsSome (cell_at c.frames location)
HasPartsFor (Act.enter location value kept) frame c = IsSome (cell_at c.frames location)
HasPartsFor (Act.finish location value number) frame c =
    IsSome (cell_at c.frames location) × IsSome (slice_get frame.loops number)
HasPartsFor (Act.read location value count) frame c = IsSome (cell_at c.frames location)
HasPartsFor (Act.write output) frame c = take (length c.output) output ≡ c.output
HasPartsFor (Act.call called) frame c = Unit {0}
HasPartsFor Act.leave frame c = IsSome (caller_of c.frames)

-- the configuration allows the act, so that a record of it can take it back: it has a newest frame, and what the act
-- changes
abbrev pub Allows : Act → PlainConfiguration → Type 0
Allows act c = (frame : Frame) × (newest_frame c.frames ≡ Some frame) × HasPartsFor act frame c

-- what takes a step back is its record, wherever the step goes on
abbrev pub StepsTakenBack : Type 0
StepsTakenBack = (act : Act) (next : PlainPlace) (c : PlainConfiguration) → Allows act c
    → step_undone (undo_of act c) (done act next c) ≡ c
