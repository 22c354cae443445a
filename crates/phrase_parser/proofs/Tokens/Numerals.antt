-- The number that digits write, digit after digit.
use Rattle.std.proofs.Common.{◌≡◌, ℕ, ◌+◌, ◌-◌, ◌*◌, ◌/◌, ◌%◌, ◌^◌, ◌<◌, ◌≤◌, true, List, [], ◌∷◌, ◌++◌, map, refl, ap, ◌∙◌, arith}
use Rattle.std.specs.Prelude.{decimal, nat_le}
use Rattle.std.specs.List.{list_all}
use Rattle.std.specs.Int.Digits.{number_from_digits}
use Rattle.std.proofs.lemmas.Bool.{and_from, le-leb}
use Rattle.std.proofs.lemmas.Fmt.{decimal_by_steps}
use Rattle.std.proofs.lemmas.Int.Digits.{number_push}
use Rattle.std.proofs.lemmas.List.{length-append, map-append}
use Rattle.std.proofs.lemmas.List.Folds.{list_all-append}
use Rattle.plcs_base.specs.Byte.{is_digit}
use Rattle.plcs_grammar.specs.Token.{numeral_value, IsNumeral}

-- the number that a digit writes
abbrev value_of_digit : ℕ → ℕ
value_of_digit digit = digit - 48

-- the number that one digit more at the end writes
pub numeral_push : (digits : List ℕ) (digit : ℕ)
    → numeral_value (digits ++ (digit ∷ [])) ≡ numeral_value digits * 10 + (digit - 48)
numeral_push digits digit =
    ap (λ (ds : List ℕ). number_from_digits 10 ds) (map-append value_of_digit digits (digit ∷ []))
    ∙ number_push 10 (map value_of_digit digits) (digit - 48)

digit_byte : (k : ℕ) → k < 10 → is_digit (48 + k) ≡ true
digit_byte k h =
    and_from (nat_le 48 (48 + k)) (nat_le (48 + k) 57) (le-leb 48 (48 + k) (omega arith)) (le-leb (48 + k) 57 (omega arith))

-- the decimal digits of a number write the number
abbrev Writes : ℕ → List ℕ → Type 0
Writes n digits = IsNumeral digits × (numeral_value digits ≡ n)

one_digit : (n : ℕ) → n < 10 → Writes n ((48 + n) ∷ [])
one_digit n h =
    let none : numeral_value [] ≡ 0 = refl in
    ((omega arith, and_from (is_digit (48 + n)) true (digit_byte n h) refl), omega (arith, numeral_push [] (48 + n), none))

one_digit_more : (n : ℕ) (digits : List ℕ) → 10 ≤ n → Writes (n / 10) digits → Writes n (digits ++ ((48 + n % 10) ∷ []))
one_digit_more n digits h writes =
    let low : n % 10 < 10 = omega arith in
    let last = and_from (is_digit (48 + n % 10)) true (digit_byte (n % 10) low) refl in (
      (
        omega (arith, length-append digits ((48 + n % 10) ∷ [])),
        list_all-append is_digit digits ((48 + n % 10) ∷ [])
            ∙ and_from (list_all is_digit digits) (list_all is_digit ((48 + n % 10) ∷ [])) writes.0.1 last,
      ),
      omega (arith, numeral_push digits (48 + n % 10), writes.1),
    )

-- a number in decimal is read back
pub decimal_numeral : (n : ℕ) → n < 2 ^ 64 → IsNumeral (decimal n) × (numeral_value (decimal n) ≡ n)
decimal_numeral n h = decimal_by_steps Writes one_digit one_digit_more n h
