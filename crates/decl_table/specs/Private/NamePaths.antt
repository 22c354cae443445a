-- Nodes whose names are kept, by their paths and their slots.
use Rattle.std.specs.Prelude.{ℕ, ◌+◌, max, if◌then◌else◌, ◌==◌, List, [], ◌∷◌, length, Option, Some, None, option_map, option_and_then, unwrap_or, slice_get}
use Rattle.decl_table.specs.DeclEdit.{names_inside}
use Rattle.decl_table.specs.Names.{NameForest}
use Rattle.decl_table.specs.Private.PlainNameNode.{PlainNameNode, name_nodes}

-- the node at the path below a node whose names are kept
abbrev pub names_below : PlainNameNode → List ℕ → Option PlainNameNode
names_below node [] = Some node
names_below node (k ∷ path) = option_and_then (λ item. names_below item path) (slice_get (name_nodes node.inner) k)

-- the node at the path among nodes whose names are kept
abbrev pub names_at : NameForest → List ℕ → Option PlainNameNode
names_at names [] = None
names_at names (k ∷ path) = option_and_then (λ item. names_below item path) (slice_get (name_nodes names) k)

-- how many nodes the list has in which a path ends among nodes whose names are kept
abbrev pub count_beside : (path : List ℕ) → NameForest → ℕ
count_beside [] names = 0
count_beside (k ∷ []) names = length (names_inside names)
count_beside (k ∷ (j ∷ path)) names =
    unwrap_or (option_map (count_beside (j ∷ path)) (slice_get (names_inside names) k)) 0

-- how many nodes there are whose names are kept
abbrev pub name_count : NameForest → ℕ
name_count NameForest.nil = 0
name_count (NameForest.cons label inner rest) = name_count inner + name_count rest + 1

-- how often a slot stands among nodes whose names are kept
abbrev pub name_times : ℕ → NameForest → ℕ
name_times slot NameForest.nil = 0
name_times slot (NameForest.cons label inner rest) =
    (if label.slot == slot then 1 else 0) + (name_times slot inner + name_times slot rest)

-- how deep the nodes stand whose names are kept
abbrev pub name_depth : NameForest → ℕ
name_depth NameForest.nil = 0
name_depth (NameForest.cons label inner rest) = max (name_depth inner + 1) (name_depth rest)
