-- One more cell that isn't set stands behind the others.
use Rattle.std.proofs.Common.{◌∷◌, ◌++◌, [], List, refl, ap, ◌∙◌}
use Rattle.std.proofs.lemmas.List.{replicate_more}
use Rattle.std.proofs.lemmas.Slice.{pushed}
use Rattle.plcs_store.specs.declared.cell.Cell.{Cell}
use Rattle.plcs_store.proofs.cell_list.CellList.unset.Goals as goal

pub loop-preserved : goal.loop-preserved
loop-preserved c =
    pushed (Cell.Unset ∷ []) refl c.in_ok-push.was c.push.ensures.items
    ∙ ap (λ (cells : List Cell). cells ++ Cell.Unset ∷ []) c.loop.invariant
    ∙ replicate_more c.loop.counter Cell.Unset
