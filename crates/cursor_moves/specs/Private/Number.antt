-- Numbers of parts and of items, counted from 0.
use Rattle.std.specs.Prelude.{ℕ, ◌+◌, ◌-◌, nat_lt, if◌then◌else◌, Option, Some, None}

-- the number of a part or an item behind another one, or the first where there is none
abbrev pub number_behind : Option ℕ → ℕ
number_behind None = 0
number_behind (Some number) = number + 1

-- the number of a part or an item behind another one, where it is one of so many
abbrev pub next_number : ℕ → Option ℕ → Option ℕ
next_number count number = if nat_lt (number_behind number) count then Some (number_behind number) else None

-- the last of so many numbers of parts or items, if there is one
abbrev pub last_number : ℕ → Option ℕ
last_number count = if nat_lt 0 count then Some (count - 1) else None
