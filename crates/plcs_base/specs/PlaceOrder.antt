-- The order of the places of phrases: it is total, places that are equal in it are the same, and its test is that of
-- their numbers.
use Rattle.std.proofs.Common.{sym, ap, ◌∙◌, refl, le_of_eq, true≢false}
use Rattle.std.proofs.lemmas.Bool.{eqb-true, le-ltb}
use Rattle.std.proofs.lemmas.Cmp.{eq_by_cmp_equiv, nat_cmp_total, on_total, then_total}
use Rattle.std.specs.Prelude.{◌≡◌, ℕ, Bool, true, false, ◌&&◌, cond, nat_eq, nat_lt}
use Rattle.std.specs.Cmp.{IsEquivalence, IsTotalOrder}
use Rattle.std.specs.FinMap.{nat_cmp-IsAntisymmetric}
use Rattle.std.specs.Ordering.{eq_by_cmp, is_eq, nat_cmp, ordering_then}
use Rattle.std.specs.declared.cmp.Ordering.{Ordering}
use Rattle.std.specs.declared.cmp.Ordering.TheVariants.{Less, Equal, Greater}
use Rattle.plcs_base.specs.Mark.{phrase_cmp}
use Rattle.plcs_base.specs.declared.place.PhraseAt.{PhraseAt}

-- places of phrases are in one order
pub places_total : IsTotalOrder phrase_cmp
places_total = then_total (on_total (λ (at : PhraseAt). at.slot.0) nat_cmp_total)
    (on_total (λ (at : PhraseAt). at.part) nat_cmp_total)

-- to be equal in the order of places is an equivalence
pub places_equiv : IsEquivalence (eq_by_cmp phrase_cmp)
places_equiv = eq_by_cmp_equiv places_total

-- in the order of places no test is true and false
never : {X : Type 0} → false ≡ true → X
never e = absurd (true≢false (sym e))

-- places that are equal in their order are the same
pub same_place : (x y : PhraseAt) → eq_by_cmp phrase_cmp x y ≡ true → x ≡ y
same_place x y same = by (nat_cmp x.slot.0 y.slot.0) (nat_cmp x.part y.part) refl refl same
  where
    by : (a b : Ordering) → nat_cmp x.slot.0 y.slot.0 ≡ a → nat_cmp x.part y.part ≡ b
        → is_eq (ordering_then a b) ≡ true → x ≡ y
    by Equal Equal e f same =
        λ i. record {
          slot = record { 0 = nat_cmp-IsAntisymmetric x.slot.0 y.slot.0 e i };
          part = nat_cmp-IsAntisymmetric x.part y.part f i;
        }
    by Less b e f same = never same
    by Greater b e f same = never same
    by Equal Less e f same = never same
    by Equal Greater e f same = never same

-- the test of numbers, of slots and of parts, is that of their order
pub nat_ties : (m n : ℕ) → nat_eq m n ≡ is_eq (nat_cmp m n)
nat_ties m n = by (nat_eq m n) (nat_lt m n) refl refl
  where
    by : (same less : Bool) → nat_eq m n ≡ same → nat_lt m n ≡ less
        → same ≡ is_eq (cond less Less (cond same Equal Greater))
    by true true e f = never (sym (le-ltb m n (le_of_eq (sym (eqb-true m n e)))) ∙ f)
    by true false e f = refl
    by false true e f = refl
    by false false e f = refl

-- the test of places is that of their order
pub place_ties : (x y : PhraseAt) → (nat_eq x.slot.0 y.slot.0 && nat_eq x.part y.part) ≡ eq_by_cmp phrase_cmp x y
place_ties x y =
    ap (λ b. b && nat_eq x.part y.part) (nat_ties x.slot.0 y.slot.0)
    ∙ ap (λ b. is_eq (nat_cmp x.slot.0 y.slot.0) && b) (nat_ties x.part y.part)
    ∙ by (nat_cmp x.slot.0 y.slot.0) (nat_cmp x.part y.part)
  where
    by : (a b : Ordering) → (is_eq a && is_eq b) ≡ is_eq (ordering_then a b)
    by Less b = refl
    by Equal b = refl
    by Greater b = refl

-- places that pass the test of their order are the same
pub place_equal : (x y : PhraseAt) → (nat_eq x.slot.0 y.slot.0 && nat_eq x.part y.part) ≡ true → x ≡ y
place_equal x y same = same_place x y (sym (place_ties x y) ∙ same)

-- the test of places is an equivalence
pub place_test_equiv : IsEquivalence (λ (x y : PhraseAt). nat_eq x.slot.0 y.slot.0 && nat_eq x.part y.part)
place_test_equiv = record {
  refl = λ x. place_ties x x ∙ places_equiv.refl x;
  symm = λ x y. place_ties x y ∙ places_equiv.symm x y ∙ sym (place_ties y x);
  congr = λ x y z same. place_ties x z ∙ places_equiv.congr x y z (sym (place_ties x y) ∙ same) ∙ sym (place_ties y z);
}
