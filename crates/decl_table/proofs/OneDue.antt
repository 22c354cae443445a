-- There is one list of the phrases that are due: lists of places in order that hold the same places are one.
use Rattle.std.proofs.Common.{◌≡◌, Bool, true, false, List, [], ◌∷◌, refl, ap, sym, subst, ◌∙◌, true≢false}
use Rattle.std.specs.Prelude.{◌||◌, Contains}
use Rattle.std.specs.List.{AllByRecursion}
use Rattle.std.specs.List.Sorted.{IsStrictlySortedBy}
use Rattle.std.specs.Ordering.{eq_by_cmp, is_eq, ordering_reverse}
use Rattle.std.specs.declared.cmp.Ordering.{Ordering}
use Rattle.std.specs.declared.cmp.Ordering.TheVariants.{Less, Equal, Greater}
use Rattle.std.proofs.lemmas.Map.Views.{Contains-from_any, list_any-from_Contains}
use Rattle.plcs_base.specs.Mark.{phrase_cmp}
use Rattle.plcs_base.specs.PlaceOrder.{places_equiv, places_total, same_place}
use Rattle.plcs_base.specs.declared.place.PhraseAt.{PhraseAt}
use Rattle.template_tree.specs.declared.change.Change.{Change}
use Rattle.template_tree.specs.Programs.PlainTree.{Forest}
use Rattle.decl_table.specs.Due.{AreDue}
use Rattle.decl_table.specs.Private.UsesView.{is_among}

-- a place is first in a list that begins with it
first_among : (at : PhraseAt) (places : List PhraseAt) → is_among at (at ∷ places) ≡ true
first_among at places = ap (λ b. b || is_among at places) (places_equiv.refl at)

-- a place before all isn't among them
none_after : (at : PhraseAt) (places : List PhraseAt) → AllByRecursion (λ y. phrase_cmp at y ≡ Less) places
    → is_among at places ≡ false
none_after at [] all = refl
none_after at (y ∷ places) all = ap (λ b. b || is_among at places) (ap is_eq all.0) ∙ none_after at places all.1

-- and so not where it is before the first of a list in order
none_later : (at first : PhraseAt) (places : List PhraseAt) → phrase_cmp at first ≡ Less
    → AllByRecursion (λ y. phrase_cmp first y ≡ Less) places → is_among at (first ∷ places) ≡ false
none_later at first places before all =
    ap (λ b. b || is_among at places) (ap is_eq before) ∙ later places all
  where
    later : (places : List PhraseAt) → AllByRecursion (λ y. phrase_cmp first y ≡ Less) places → is_among at places ≡ false
    later [] all = refl
    later (y ∷ places) all =
        ap (λ b. b || is_among at places) (ap is_eq (places_total.trans at first y before all.0)) ∙ later places all.1

-- the lists hold the same places
abbrev HoldSame : (one other : List PhraseAt) → Type 0
HoldSame one other = (at : PhraseAt) → is_among at one ≡ is_among at other

-- those behind the same first place are the same
rest_same : (first : PhraseAt) (one other : List PhraseAt) → AllByRecursion (λ y. phrase_cmp first y ≡ Less) one
    → AllByRecursion (λ y. phrase_cmp first y ≡ Less) other → HoldSame (first ∷ one) (first ∷ other) → HoldSame one other
rest_same first one other after_one after_other same at = by (eq_by_cmp phrase_cmp at first) refl
  where
    own : at ≡ first → is_among at one ≡ is_among at other
    own is =
        ap (λ q. is_among q one) is ∙ none_after first one after_one
        ∙ sym (ap (λ q. is_among q other) is ∙ none_after first other after_other)

    by : (b : Bool) → eq_by_cmp phrase_cmp at first ≡ b → is_among at one ≡ is_among at other
    by true is = own (same_place at first is)
    by false is =
        sym (ap (λ b. b || is_among at one) is) ∙ same at ∙ ap (λ b. b || is_among at other) is

one_list : (one other : List PhraseAt) → IsStrictlySortedBy phrase_cmp one → IsStrictlySortedBy phrase_cmp other
    → HoldSame one other → one ≡ other
unfolding IsStrictlySortedBy
one_list [] [] sorted others same = refl
one_list [] (y ∷ other) sorted others same = absurd (true≢false (sym (same y ∙ first_among y other)))
one_list (x ∷ one) [] sorted others same = absurd (true≢false (sym (first_among x one) ∙ same x))
one_list (x ∷ one) (y ∷ other) sorted others same = by (phrase_cmp x y) refl (one_list one other sorted.1 others.1)
  where
    greater : phrase_cmp x y ≡ Greater → phrase_cmp y x ≡ Less
    greater is = places_total.antisymm y x ∙ ap ordering_reverse is

    equal : (first : PhraseAt) → AllByRecursion (λ z. phrase_cmp first z ≡ Less) other → HoldSame (x ∷ one) (first ∷ other)
        → x ≡ first → (HoldSame one other → one ≡ other) → x ∷ one ≡ first ∷ other
    equal first after alike is again =
        (λ i. is i ∷ again
        (rest_same x one other sorted.0 (subst (λ p. AllByRecursion (λ z. phrase_cmp p z ≡ Less) other) (sym is) after)
        (subst (λ p. HoldSame (x ∷ one) (p ∷ other)) (sym is) alike)) i)

    by : (o : Ordering) → phrase_cmp x y ≡ o → (HoldSame one other → one ≡ other) → x ∷ one ≡ y ∷ other
    by Less is again =
        absurd (true≢false (sym (first_among x one) ∙ same x ∙ none_later x y other is others.0))
    by Greater is again =
        absurd (true≢false (sym (first_among y other) ∙ sym (same y) ∙ none_later y x one (greater is) sorted.0))
    by Equal is again = equal y others.0 same (same_place x y (ap is_eq is)) again

-- a test that is passed where another one is, and the other way round, is the same
same_test : (a b : Bool) → (a ≡ true → b ≡ true) → (b ≡ true → a ≡ true) → a ≡ b
same_test true b onward back = sym (onward refl)
same_test false true onward back = back refl
same_test false false onward back = refl

pub due_is_one : (before after : Forest) (change : Change) (one other : List PhraseAt) → AreDue before after change one
    → AreDue before after change other → one ≡ other
due_is_one before after change one other first second =
    one_list one other first.increasing second.increasing
    (λ at. same_test (is_among at one) (is_among at other)
    (λ there. held other at ((second.each at).1 ((first.each at).0 (holds one at there))))
    (λ there. held one at ((first.each at).1 ((second.each at).0 (holds other at there)))))
  where
    held : (places : List PhraseAt) (at : PhraseAt) → Contains places at → is_among at places ≡ true
    held places at there = list_any-from_Contains places_equiv at places there

    holds : (places : List PhraseAt) (at : PhraseAt) → is_among at places ≡ true → Contains places at
    holds places at there = Contains-from_any same_place at places there
