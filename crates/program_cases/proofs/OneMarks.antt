-- A map of one mark.
use Rattle.std.specs.Prelude.{◌≡◌, Some, None, cond}
use Rattle.std.proofs.Common.{ap, sym, ◌∙◌}
use Rattle.std.specs.Cmp.{IsTotalOrder}
use Rattle.std.specs.Ordering.{is_eq}
use Rattle.std.specs.declared.cmp.Ordering.{Ordering}
use Rattle.std.specs.FinMap.{empty, get, get-empty, get-insert, insert}
use Rattle.std.proofs.lemmas.Cmp.{nat_cmp_total, on_total, then_total}
use Rattle.plcs_base.specs.Mark.{MarkMap, phrase_cmp}
use Rattle.plcs_base.specs.declared.mark.MarkKind.{MarkKind}
use Rattle.plcs_base.specs.declared.place.PhraseAt.{PhraseAt}

-- phrases are in one order
phrases_total : IsTotalOrder phrase_cmp
phrases_total = then_total (on_total (λ (at : PhraseAt). at.slot.0) nat_cmp_total) (on_total (λ (at : PhraseAt). at.part) nat_cmp_total)

-- what the map tells of a phrase that compares with the marked one in this way
pub told : (marked at : PhraseAt) (kind : MarkKind) (order : Ordering) → phrase_cmp at marked ≡ order
    → cond (is_eq order) (Some kind) None ≡ get (insert (let m : MarkMap = empty in m) marked kind) at
told marked at kind order same =
    sym (get-insert phrases_total (let m : MarkMap = empty in m) marked kind at
    ∙ ap (λ r. cond (is_eq r) (Some kind) (get (let m : MarkMap = empty in m) at)) same
    ∙ ap (λ o. cond (is_eq order) (Some kind) o) (get-empty phrase_cmp at))
