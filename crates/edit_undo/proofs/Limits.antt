-- The values of the limits: the definitions cite the code's constants, so a change of one is refused here.
use Rattle.std.proofs.Common.{◌≡◌, refl}
use Rattle.edit_undo.specs.EditLimit.{most_edits, most_taken_slots}

-- at most 50 edits can be undone
most_edits_is : most_edits ≡ 50
most_edits_is = refl

-- the nodes that they took out have at most 20,000 slots together
most_taken_slots_is : most_taken_slots ≡ 20000
most_taken_slots_is = refl
