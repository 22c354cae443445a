-- The text of a negative number.
use Rattle.std.proofs.Common.{ℕ, ◌≡◌, ◌∷◌, ℤ, pos, negsuc, decimal, ap, true, arith}
use Rattle.std.specs.Int.Signed.{lt_z}
use Rattle.std.specs.Prelude.{nat_abs}
use Rattle.std.proofs.lemmas.Int.{ints}
use Rattle.std.specs.Fmt.{signed_decimal}

pub negative_text : (z : ℤ) (n : ℕ) → lt_z z (pos 0) ≡ true → n ≡ nat_abs z → 45 ∷ decimal n ≡ signed_decimal z
negative_text (pos k) n below is = absurd (omega (arith, ints, below))
negative_text (negsuc k) n below is = ap (λ m. 45 ∷ decimal m) is
