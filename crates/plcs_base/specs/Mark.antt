-- The marks of phrases.
use Rattle.std.specs.Ordering.{nat_cmp, on, then_cmp}
use Rattle.std.specs.declared.cmp.Ordering.{Ordering}
use Rattle.std.specs.FinMap.{FinMap}
use Rattle.plcs_base.specs.declared.place.PhraseAt.{PhraseAt}
use Rattle.plcs_base.specs.declared.mark.MarkKind.{MarkKind}

-- the order of phrases in the map of marks: by slot, and within a slot by part
abbrev pub phrase_cmp : PhraseAt → PhraseAt → Ordering
phrase_cmp = then_cmp (on (λ at. at.slot.0) nat_cmp) (on (λ at. at.part) nat_cmp)

-- a map of marks of phrases: what is wrong with each phrase that has a mark; the others are not in the map
abbrev pub MarkMap : Type 0
MarkMap = FinMap phrase_cmp MarkKind
