-- Which item of a program calls find by a name, and maps of such names.
use Rattle.std.specs.Prelude.{ℕ, ◌+◌, List, [], ◌∷◌, ◌++◌}
use Rattle.std.specs.Coded.{Coded, coded_ℕ, coded_list}
use Rattle.std.specs.FinMap.{code, insert}
use Rattle.template_tree.specs.Checks.Environment.{heading_of}
use Rattle.template_tree.specs.Programs.PlainTree.{Forest}
use Rattle.plcs_code.specs.OwnCode.{name_to_call}
use Rattle.code_patch.specs.ItemNames.{NumberMap, number_named}

-- how such a map is told apart
abbrev pub number_map_code : Coded NumberMap
number_map_code = code (coded_list coded_ℕ) coded_ℕ

-- the numbers of the items of a program in order by the names by which calls find them, the first of which has this
-- number
abbrev pub numbered_items : (number : ℕ) → Forest → List (List ℕ × ℕ)
numbered_items number Forest.nil = []
numbered_items number (Forest.cons label inner rest) =
    number_named number (name_to_call (heading_of label.kind label.parts)) ++ numbered_items (number + 1) rest

-- the map with the numbers of items by their names before those that it has
abbrev pub with_numbers : List (List ℕ × ℕ) → NumberMap → NumberMap
with_numbers [] map = map
with_numbers (entry ∷ entries) map = insert (with_numbers entries map) entry.0 entry.1
