-- The number that digits write, digit after digit.
use Rattle.std.proofs.Common.{◌≡◌, ℕ, ◌+◌, ◌-◌, ◌*◌, ◌<◌, List, length, map, take, get_or, sym, ap, ◌∙◌, arith}
use Rattle.std.specs.Int.Digits.{number_from_digits}
use Rattle.std.proofs.lemmas.Int.Digits.{number_more}
use Rattle.std.proofs.lemmas.List.{take-map, get_or-map, length-map}
use Rattle.plcs_grammar.specs.Token.{numeral_value}

-- the number that a digit writes
abbrev value_of_digit : ℕ → ℕ
value_of_digit digit = digit - 48

-- one digit more
pub numeral_more : (xs : List ℕ) (i : ℕ) → i < length xs
    → numeral_value (take (i + 1) xs) ≡ numeral_value (take i xs) * 10 + (get_or xs i 0 - 48)
numeral_more xs i h =
    let digits = map value_of_digit xs in
    let within : i < length digits = omega (arith, h, length-map xs value_of_digit) in
    sym (ap (λ (ds : List ℕ). number_from_digits 10 ds) (take-map value_of_digit (i + 1) xs)) ∙ number_more 10 digits i within
    ∙ ap (λ (ds : List ℕ). number_from_digits 10 ds * 10 + get_or digits i 0) (take-map value_of_digit i xs)
    ∙ ap (λ (d : ℕ). numeral_value (take i xs) * 10 + d) (get_or-map value_of_digit xs i 0 0 h)
