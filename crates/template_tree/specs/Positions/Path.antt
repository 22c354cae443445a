-- Nodes at their paths, and the paths beside them.
use Rattle.std.specs.Prelude.{ℕ, suc, List, [], ◌∷◌, Option, Some, None, option_and_then, option_map, slice_get}
use Rattle.template_tree.specs.declared.side.Side.{Side}
use Rattle.template_tree.specs.Programs.PlainTree.{Forest, PlainNode, nodes}

-- the node at the path below a node
abbrev pub below : PlainNode → List ℕ → Option PlainNode
below node [] = Some node
below node (k ∷ path) = option_and_then (λ item. below item path) (slice_get (nodes node.inner) k)

-- the node at the path
abbrev pub node_at : Forest → List ℕ → Option PlainNode
node_at items [] = None
node_at items (k ∷ path) = option_and_then (λ item. below item path) (slice_get (nodes items) k)

-- the slot of the node at the path
abbrev pub slot_at : Forest → List ℕ → Option ℕ
slot_at items path = option_map (λ node. node.label.slot) (node_at items path)

-- the last number of a path, which the node there has in its list
abbrev pub last_child_number : List ℕ → ℕ
last_child_number [] = 0
last_child_number (k ∷ []) = k
last_child_number (k ∷ (j ∷ path)) = last_child_number (j ∷ path)

-- a path with another last number, which leads to another item of the same list
abbrev pub with_last : (ℕ → ℕ) → List ℕ → List ℕ
with_last other [] = []
with_last other (k ∷ []) = other k ∷ []
with_last other (k ∷ (j ∷ path)) = k ∷ with_last other (j ∷ path)

-- the path beside a path: where a node stands that came on this side of the one there
abbrev pub added_path : Side → List ℕ → List ℕ
added_path Side.Before path = path
added_path Side.After path = with_last suc path
