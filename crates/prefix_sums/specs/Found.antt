-- In which number of a list a count runs out.
use Rattle.std.specs.Prelude.{◌≡◌, ℕ, ◌+◌, ◌<◌, ◌≤◌, List, length, sum, take, slice_index, Option, Some, None}
use Rattle.prefix_sums.specs.declared.position.Position.{Position}

-- the count runs out in the number of this place, with the rest in it; or in none, since the numbers together are no
-- more
abbrev pub IsFound : List ℕ → ℕ → Option Position → Type 0
IsFound numbers at None = sum numbers ≤ at
IsFound numbers at (Some position) =
    (position.index < length numbers)
    × (sum (take position.index numbers) + position.rest ≡ at)
    × (position.rest < slice_index numbers position.index)
