-- Whole numbers, computed with at twice their width: nothing is cut off, so what comes out is the number itself.
use Rattle.std.proofs.Common.{arith, ◌≡◌, refl, ℕ, suc, zero, ◌-◌, ◌≤◌, ap, ◌∙◌}
use Rattle.std.specs.Prelude.{true, false, ◌/◌, ◌^◌, ℤ, pos, negsuc, neg_ℤ, ◌+ℤ◌, ◌-ℤ◌, ◌*ℤ◌, int_div, unsigned_abs}
use Rattle.std.proofs.lemmas.Int.{fits_signed_mul, ints, quot_is, to_z-of_z}
use lib.Signed.{mag}
use native.Mathlib.Nat.{div-le_self}
use mir.Syntax.{w32, w64}
use mir.Val.{SFits, of_z, to_z}
use Rattle.plcs_store.specs.Operator.{is_zero}

-- a number that fits, passed on
pub passed : (z : ℤ) → SFits w32 z → to_z w32 (of_z w32 z) ≡ z
passed z fits = to_z-of_z w32 z fits

-- and one that was widened
pub widened : (z x : ℤ) → SFits w32 z → x ≡ to_z w32 (of_z w32 z) → x ≡ z
widened z x fits is = is ∙ to_z-of_z w32 z fits

-- a number that fits does so when it was widened
wide : (z : ℤ) → SFits w32 z → SFits w64 z
wide z fits = record { sfits = omega (arith, fits.sfits) }

-- ---- sums, differences and products

pub sum_given : (a b x y : ℤ) → SFits w32 a → SFits w32 b → x ≡ to_z w32 (of_z w32 a) → y ≡ to_z w32 (of_z w32 b)
    → to_z w64 (of_z w64 (to_z w64 (of_z w64 x) +ℤ to_z w64 (of_z w64 y))) ≡ a +ℤ b
sum_given a b x y fits_a fits_b a_is b_is = omega (arith, ints)

pub difference_given : (a b x y : ℤ) → SFits w32 a → SFits w32 b → x ≡ to_z w32 (of_z w32 a) → y ≡ to_z w32 (of_z w32 b)
    → to_z w64 (of_z w64 (to_z w64 (of_z w64 x) -ℤ to_z w64 (of_z w64 y))) ≡ a -ℤ b
difference_given a b x y fits_a fits_b a_is b_is = omega (arith, ints)

-- how far a number that fits is from 0, at most
most : (z : ℤ) → SFits w32 z → unsigned_abs z ≤ 2 ^ 31
most (pos n) fits = omega (arith, fits.sfits)
most (negsuc n) fits = omega (arith, fits.sfits)

-- a product fits
product_fits : (a b : ℤ) → SFits w32 a → SFits w32 b → SFits w64 (a *ℤ b)
product_fits a b fits_a fits_b = fits_signed_mul w64 a b (2 ^ 31) (2 ^ 31) (most a fits_a) (most b fits_b) (omega arith)

pub product_given : (a b x y : ℤ) → SFits w32 a → SFits w32 b → x ≡ to_z w32 (of_z w32 a) → y ≡ to_z w32 (of_z w32 b)
    → to_z w64 (of_z w64 (to_z w64 (of_z w64 x) *ℤ to_z w64 (of_z w64 y))) ≡ a *ℤ b
product_given a b x y fits_a fits_b a_is b_is =
    ap (λ (z : ℤ). to_z w64 (of_z w64 (to_z w64 (of_z w64 z) *ℤ to_z w64 (of_z w64 y)))) (widened a x fits_a a_is)
    ∙ ap (λ (z : ℤ). to_z w64 (of_z w64 (to_z w64 (of_z w64 a) *ℤ to_z w64 (of_z w64 z)))) (widened b y fits_b b_is)
    ∙ ap (λ (z : ℤ). to_z w64 (of_z w64 (z *ℤ to_z w64 (of_z w64 b)))) (to_z-of_z w64 a (wide a fits_a))
    ∙ ap (λ (z : ℤ). to_z w64 (of_z w64 (a *ℤ z))) (to_z-of_z w64 b (wide b fits_b))
    ∙ to_z-of_z w64 (a *ℤ b) (product_fits a b fits_a fits_b)

-- ---- quotients

-- how far a number below 0 is from it
mag_below : (n : ℕ) → mag (neg_ℤ (pos n)) ≡ n - 1
mag_below zero = refl
mag_below (suc n) = omega arith

-- a quotient fits where what is divided does so
quotient_fits : (a b : ℤ) → SFits w32 a → SFits w64 (int_div a b)
quotient_fits (pos a) (pos b) fits = record { sfits = omega (arith, div-le_self a b, fits.sfits) }
quotient_fits (pos a) (negsuc b) fits = record { sfits = omega (arith, mag_below (a / suc b), div-le_self a (suc b), fits.sfits) }
quotient_fits (negsuc a) (pos b) fits = record { sfits = omega (arith, mag_below (suc a / b), div-le_self (suc a) b, fits.sfits) }
quotient_fits (negsuc a) (negsuc b) fits = record { sfits = omega (arith, div-le_self (suc a) (suc b), fits.sfits) }

pub quotient_given : (a b x y : ℤ) → SFits w32 a → SFits w32 b → x ≡ to_z w32 (of_z w32 a) → y ≡ to_z w32 (of_z w32 b)
    → to_z w64 (of_z w64 (int_div (to_z w64 (of_z w64 x)) (to_z w64 (of_z w64 y)))) ≡ int_div a b
quotient_given a b x y fits_a fits_b a_is b_is =
    ap (λ (z : ℤ). to_z w64 (of_z w64 (int_div (to_z w64 (of_z w64 z)) (to_z w64 (of_z w64 y))))) (widened a x fits_a a_is)
    ∙ ap (λ (z : ℤ). to_z w64 (of_z w64 (int_div (to_z w64 (of_z w64 a)) (to_z w64 (of_z w64 z))))) (widened b y fits_b b_is)
    ∙ quot_is w64 a b (wide a fits_a) (wide b fits_b) (quotient_fits a b fits_a)

-- the test for 0
pub zero_tested : (b : ℤ) → SFits w32 b → of_z w32 b ≡ 0 → is_zero b ≡ true
zero_tested (pos n) fits zero_is = grind arith
zero_tested (negsuc n) fits zero_is = absurd (omega (arith, fits.sfits))

pub other_tested : (b : ℤ) → SFits w32 b → (of_z w32 b ≡ 0 → ⊥) → is_zero b ≡ false
other_tested (pos n) fits other = grind arith
other_tested (negsuc n) fits other = refl
