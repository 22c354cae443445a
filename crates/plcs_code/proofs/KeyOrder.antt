-- The keys of the maps of code: the tests of numbers, of places and of names are those of their orders.
use Rattle.std.proofs.Common.{◌≡◌, ℕ, Bool, true, false, List, sym, ap, ◌∙◌, refl, arith}
use Rattle.std.specs.Prelude.{◌&&◌, bytes_eq, cond, nat_eq, nat_lt}
use Rattle.std.proofs.lemmas.Bool.Decides.{nat_tests}
use Rattle.std.proofs.lemmas.Slice.Eq.{bytes_eq-Decides}
use Rattle.std.specs.Cmp.{IsTotalOrder}
use Rattle.std.specs.FinMap.{IsAntisymmetric, nat_cmp-IsAntisymmetric, slice_cmp-IsAntisymmetric}
use Rattle.std.specs.Ordering.{eq_by_cmp, is_eq, nat_cmp, ordering_then}
use Rattle.std.specs.declared.cmp.Ordering.{Ordering}
use Rattle.std.specs.declared.cmp.Ordering.TheVariants.{Less, Equal, Greater}
use Rattle.std.proofs.lemmas.Cmp.{eq_by_cmp_equiv, nat_cmp_total, nat_list_cmp_total, on_total, then_total}
use Rattle.plcs_base.specs.declared.place.Place.{Place}
use Rattle.plcs_code.specs.Gen.{name_cmp, place_cmp}

-- ---- numbers

-- the test of numbers is that of their order
pub nat_ties : (m n : ℕ) → nat_eq m n ≡ eq_by_cmp nat_cmp m n
nat_ties m n = by (nat_lt m n) (nat_eq m n) refl refl
  where
    by : (less same : Bool) → nat_lt m n ≡ less → nat_eq m n ≡ same → same ≡ is_eq (cond less Less (cond same Equal Greater))
    by true true e f = absurd (grind (arith, nat_tests))
    by true false e f = refl
    by false true e f = refl
    by false false e f = refl

-- ---- places

-- places are in one order
pub places_total : IsTotalOrder place_cmp
places_total = then_total (on_total (λ (at : Place). at.slot.0) nat_cmp_total) (on_total (λ (at : Place). at.point.0) nat_cmp_total)

-- only equal places tie in it
pub places_differ : IsAntisymmetric place_cmp
places_differ x y same = by (nat_cmp x.slot.0 y.slot.0) (nat_cmp x.point.0 y.point.0) refl refl same
  where
    by : (a b : Ordering) → nat_cmp x.slot.0 y.slot.0 ≡ a → nat_cmp x.point.0 y.point.0 ≡ b → ordering_then a b ≡ Equal → x ≡ y
    by Equal Equal e f same = λ i. record {
      slot = record { 0 = nat_cmp-IsAntisymmetric x.slot.0 y.slot.0 e i };
      point = record { 0 = nat_cmp-IsAntisymmetric x.point.0 y.point.0 f i };
    }
    by Less b e f same = absurd (cc)
    by Greater b e f same = absurd (cc)
    by Equal Less e f same = absurd (cc)
    by Equal Greater e f same = absurd (cc)

-- the test of places
abbrev pub place_test : Place → Place → Bool
place_test x y = nat_eq x.slot.0 y.slot.0 && nat_eq x.point.0 y.point.0

-- it is that of their order
pub place_ties : (x y : Place) → place_test x y ≡ eq_by_cmp place_cmp x y
place_ties x y =
    ap (λ b. b && nat_eq x.point.0 y.point.0) (nat_ties x.slot.0 y.slot.0)
    ∙ ap (λ b. is_eq (nat_cmp x.slot.0 y.slot.0) && b) (nat_ties x.point.0 y.point.0)
    ∙ by (nat_cmp x.slot.0 y.slot.0) (nat_cmp x.point.0 y.point.0)
  where
    by : (a b : Ordering) → (is_eq a && is_eq b) ≡ is_eq (ordering_then a b)
    by Less b = refl
    by Equal b = refl
    by Greater b = refl

-- ---- names

-- names are in one order, in which only equal ones tie
pub names_total : IsTotalOrder name_cmp
names_total = nat_list_cmp_total

pub names_differ : IsAntisymmetric name_cmp
names_differ = slice_cmp-IsAntisymmetric nat_cmp-IsAntisymmetric

-- the test of names is that of their order
pub name_ties : (x y : List ℕ) → bytes_eq x y ≡ eq_by_cmp name_cmp x y
name_ties x y = by (bytes_eq x y) (name_cmp x y) refl refl
  where
    by : (b : Bool) (o : Ordering) → bytes_eq x y ≡ b → name_cmp x y ≡ o → b ≡ is_eq o
    by true o e f =
        sym ((eq_by_cmp_equiv names_total).refl x)
        ∙ ap (λ z. eq_by_cmp name_cmp x z) ((bytes_eq-Decides x y).0 e)
        ∙ ap is_eq f
    by false Less e f = refl
    by false Equal e f = sym e ∙ (bytes_eq-Decides x y).1 (names_differ x y f)
    by false Greater e f = refl
