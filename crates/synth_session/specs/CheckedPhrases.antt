-- How many phrases a program has: so many are checked at most where the program is new, or another one.
use Rattle.std.specs.Prelude.{ℕ, ◌+◌, List, [], ◌∷◌, Option, Some, None}
use Rattle.plcs_grammar.specs.PlainPhrase.{PlainPhrase}
use Rattle.template_tree.specs.Programs.PlainTree.{Forest, PlainTree}

-- how many of the parts of a node are filled
abbrev pub filled_parts : List (Option PlainPhrase) → ℕ
filled_parts [] = 0
filled_parts (None ∷ parts) = filled_parts parts
filled_parts (Some phrase ∷ parts) = 1 + filled_parts parts

-- how many phrases stand in nodes: one in each part that is filled
abbrev pub phrases_in : Forest → ℕ
phrases_in Forest.nil = 0
phrases_in (Forest.cons label inner rest) = filled_parts label.parts + (phrases_in inner + phrases_in rest)

-- how many phrases a program has
unfoldable pub phrase_count : PlainTree → ℕ
phrase_count tree = phrases_in tree.items
