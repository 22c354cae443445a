-- Frames whose procedures and places are found in a program.
use Rattle.std.specs.Prelude.{◌≡◌, ℕ, ◌≤◌, List, slice_get, Some, IsSome}
use Rattle.template_tree.specs.Checks.Environment.{procedure_at}
use Rattle.template_tree.specs.Programs.PlainTree.{Forest}
use Rattle.template_tree.specs.Programs.Slots.{times}
use Rattle.plcs_store.specs.declared.frame.Frame.{Frame}

-- the procedure of each of the frames stands in the program
abbrev pub HasProcedures : (program : Forest) → List Frame → Type 0
HasProcedures program frames =
    (number : ℕ) (frame : Frame) → slice_get frames number ≡ Some frame
    → IsSome (procedure_at program frame.procedure.0)

-- the slot of the place of each of the frames is live
abbrev pub HasSlots : (program : Forest) → List Frame → Type 0
HasSlots program frames =
    (number : ℕ) (frame : Frame) → slice_get frames number ≡ Some frame → 1 ≤ times frame.place.slot.0 program
