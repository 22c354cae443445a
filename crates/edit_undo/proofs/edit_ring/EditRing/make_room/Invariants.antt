use Rattle.std.specs.Prelude.{◌≡◌, ◌∷◌, length}
use Rattle.edit_undo.specs.EditLimit.{edit_weight, kept_edits}
use Rattle.edit_undo.specs.declared.edit_record.EditRecord.{EditRecord}
use Rattle.edit_undo.proofs.edit_ring.EditRing.make_room.Given as goal

abbrev pub decreases-loop-self : goal.decreases-loop-self
decreases-loop-self l = length l.self

-- of an edit of this weight and the others as many are kept as before
abbrev pub invariant-loop-self : goal.invariant-loop-self
invariant-loop-self l =
    (edit : EditRecord) → edit_weight edit.back ≡ l.fn.weight → kept_edits (edit ∷ l.self) ≡ kept_edits (edit ∷ l.fn.self)
