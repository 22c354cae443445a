-- Lists of numbers, and what they become.
use Rattle.std.specs.Prelude.{ℕ, ◌+◌, ◌-◌, List, slice_set}
use Rattle.std.specs.List.{insert, remove}

-- a list of numbers in order, with how many more there is room for
pub record PlainPrefixSums : Type 0 where
  pub numbers : List ℕ
  pub spare : ℕ

-- the list of numbers with another number in this place
abbrev pub with_number_set : PlainPrefixSums → ℕ → ℕ → PlainPrefixSums
with_number_set list k number = record list { numbers = slice_set list.numbers k number }

-- the list of numbers with one more before the one in this place, in room that was there
abbrev pub with_number_inserted : PlainPrefixSums → ℕ → ℕ → PlainPrefixSums
with_number_inserted list k number = record { numbers = insert list.numbers k number; spare = list.spare - 1 }

-- the list of numbers without the one in this place, whose room is left
abbrev pub with_number_removed : PlainPrefixSums → ℕ → PlainPrefixSums
with_number_removed list k = record { numbers = remove list.numbers k; spare = list.spare + 1 }
