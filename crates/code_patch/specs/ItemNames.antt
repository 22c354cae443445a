-- Which kept item calls find by a name.
use Rattle.std.specs.Prelude.{ℕ, ◌+◌, List, [], ◌∷◌, ◌++◌, Option, Some, None}
use Rattle.std.specs.FinMap.{FinMap, from_entries}
use Rattle.plcs_code.specs.Gen.{name_cmp}
use Rattle.code_patch.specs.CodeForest.{CodeForest}

-- the number of the item that calls find by each name
abbrev pub NumberMap : Type 0
NumberMap = FinMap name_cmp ℕ

-- the number of an item by the name by which calls find it, if they do
abbrev pub number_named : (number : ℕ) → Option (List ℕ) → List (List ℕ × ℕ)
number_named number None = []
number_named number (Some name) = (name, number) ∷ []

-- the numbers of kept items in order by their names, the first of which has this number
abbrev pub numbers_by_name : (number : ℕ) → CodeForest → List (List ℕ × ℕ)
numbers_by_name number CodeForest.nil = []
numbers_by_name number (CodeForest.cons own spare inner rest) =
    number_named number own.name ++ numbers_by_name (number + 1) rest

-- the items that calls find by their names, of which the first of a name counts
abbrev pub item_numbers : CodeForest → NumberMap
item_numbers items = from_entries (numbers_by_name 0 items)
