-- How large nodes are: what stands inside a node is smaller than the node.
use Rattle.std.specs.Prelude.{ℕ, suc, ◌+◌, ◌≤◌, List, [], ◌∷◌}
use Rattle.std.proofs.Common.{arith}
use denote.Param.Weighed.{most}
use Rattle.template_tree.specs.Programs.PlainTree.{Forest, PlainNode, PlainNodes, forest}

-- how large nodes in order are: two for each node, since a node and its list take turns
abbrev pub forest_weight : Forest → ℕ
forest_weight Forest.nil = 0
forest_weight (Forest.cons label inner rest) = suc (suc (forest_weight inner + forest_weight rest))

-- how large a node is
abbrev pub weight : PlainNode → ℕ
weight node = suc (suc (forest_weight node.inner))

-- how large a list of nodes is
abbrev pub nodes_weight : PlainNodes → ℕ
nodes_weight list = suc (forest_weight (forest list.items))

-- no node of a tree is larger than the list of nodes in which it is an item
pub most_le_weight : (items : List PlainNode) → most (λ node. weight node + 1) items ≤ forest_weight (forest items) + 1
most_le_weight [] = omega arith
most_le_weight (node ∷ rest) = omega (arith, most_le_weight rest)
