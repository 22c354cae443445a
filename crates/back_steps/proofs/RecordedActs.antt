-- `allowed_acts_are_recorded`: what an act changes is there where it is allowed, so its record is made of that.
use Rattle.std.specs.Prelude.{⊤, Option, Some, None, IsSome, slice_get}
use Rattle.std.specs.Option.{option_map_or}
use Rattle.std.proofs.Common.{sym, subst}
use Rattle.std.proofs.Math.Bool.{false≢true}
use Rattle.plcs_store.specs.declared.frame.Frame.{Frame}
use Rattle.plcs_store.specs.declared.undo.Undo.{Undo}
use Rattle.plcs_store.specs.Act.{Act}
use Rattle.plcs_store.specs.CellAt.{cell_at}
use Rattle.plcs_store.specs.Configuration.{PlainConfiguration}
use Rattle.plcs_store.specs.Undone.{HasPartsFor, caller_of, undo_in_frame}
use Rattle.back_steps.specs.HistoryLaws.{AllowedActsRecorded, IsRecorded}

-- ---- a record that isn't empty, by its form

-- each record but the empty one tells of a place
abbrev HasPlace : Undo → Type 0
HasPlace Undo.Empty = ⊥
HasPlace (Undo.Moved place) = ⊤
HasPlace (Undo.Stored place location cell) = ⊤
HasPlace (Undo.Entered place location cell) = ⊤
HasPlace (Undo.Finished place location cell kept number) = ⊤
HasPlace (Undo.Read place location cell taken) = ⊤
HasPlace (Undo.Wrote place count) = ⊤
HasPlace (Undo.Called place) = ⊤
HasPlace (Undo.Left place frame) = ⊤

recorded : (undo : Undo) → HasPlace undo → IsRecorded undo
recorded undo has empty = subst HasPlace empty has

-- a record of what is there
of_what_is_there : {A : Type 0} (found : Option A) (make : A → Undo) → IsSome found → ((a : A) → HasPlace (make a))
    → HasPlace (option_map_or make found Undo.Empty)
of_what_is_there None make there has = absurd (false≢true there)
of_what_is_there (Some a) make there has = has a

-- ---- the acts

in_frame : (act : Act) (frame : Frame) (c : PlainConfiguration) → HasPartsFor act frame c → HasPlace (undo_in_frame act frame c)
in_frame Act.pass frame c parts = tt
in_frame (Act.store location value) frame c parts =
    of_what_is_there (cell_at c.frames location) (Undo.Stored frame.place location) parts (λ cell. tt)
in_frame (Act.enter location value kept) frame c parts =
    of_what_is_there (cell_at c.frames location) (Undo.Entered frame.place location) parts (λ cell. tt)
in_frame (Act.finish location value number) frame c (held, left) =
    of_what_is_there (cell_at c.frames location)
    (λ cell. option_map_or (λ kept. Undo.Finished frame.place location cell kept number) (slice_get frame.loops number) Undo.Empty) held
    (λ cell.
    of_what_is_there (slice_get frame.loops number) (λ kept. Undo.Finished frame.place location cell kept number) left (λ kept. tt))
in_frame (Act.read location value count) frame c parts =
    of_what_is_there (cell_at c.frames location) (λ cell. Undo.Read frame.place location cell c.taken) parts (λ cell. tt)
in_frame (Act.write output) frame c parts = tt
in_frame (Act.call called) frame c parts = tt
in_frame Act.leave frame c below = of_what_is_there (caller_of c.frames) (λ caller. Undo.Left caller.place frame) below (λ caller. tt)

pub allowed_acts_are_recorded : AllowedActsRecorded
allowed_acts_are_recorded act c (frame, top, parts) =
    subst (λ (found : Option Frame). IsRecorded (option_map_or (λ one. undo_in_frame act one c) found Undo.Empty)) (sym top)
    (recorded (undo_in_frame act frame c) (in_frame act frame c parts))
