-- Numbers among the words of the command, which are written in decimal digits.
use Rattle.std.specs.Prelude.{ℕ, ◌+◌, ◌-◌, ◌*◌, Bool, ◌&&◌, nat_lt, nat_le, List, length, fold, Option, None, Some, if◌then◌else◌}
use Rattle.std.specs.List.{list_all}
use Rattle.std.specs.Char.{is_ascii_digit}

-- the number that the decimal digits of a word spell
abbrev pub value_of : List ℕ → ℕ
value_of digits = fold (λ value digit. 10 * value + (digit - 48)) 0 digits

-- whether a word is a number: from 1 to 10 digits and nothing else, with a value of at most `most`
abbrev pub is_number : ℕ → List ℕ → Bool
is_number most text =
    nat_lt 0 (length text) && nat_le (length text) 10 && list_all is_ascii_digit text &&
    nat_le (value_of text) most

-- the number that a word is, if it is one and at most `most`
unfoldable pub number_in_digits : ℕ → List ℕ → Option ℕ
number_in_digits most text = if is_number most text then Some (value_of text) else None
