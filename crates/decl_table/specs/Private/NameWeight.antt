-- How large nodes are whose names are kept: what stands inside a node is smaller than the node.
use Rattle.std.specs.Prelude.{ℕ, suc, ◌+◌, ◌≤◌, List, [], ◌∷◌}
use Rattle.std.proofs.Common.{arith}
use denote.Param.Weighed.{most}
use Rattle.decl_table.specs.Names.{NameForest}
use Rattle.decl_table.specs.Private.PlainNameNode.{PlainNameNode, PlainNameNodes, name_forest}

-- how large nodes are whose names are kept: two for each, since a node and its list take turns
abbrev pub forest_weight : NameForest → ℕ
forest_weight NameForest.nil = 0
forest_weight (NameForest.cons label inner rest) = suc (suc (forest_weight inner + forest_weight rest))

-- how large a node is whose names are kept
abbrev pub weight : PlainNameNode → ℕ
weight node = suc (suc (forest_weight node.inner))

-- how large a list of nodes is whose names are kept
abbrev pub list_weight : PlainNameNodes → ℕ
list_weight list = suc (forest_weight (name_forest list.items))

-- no node whose names are kept is larger than the list in which it stands
pub most_le_weight : (items : List PlainNameNode)
    → most (λ node. weight node + 1) items ≤ forest_weight (name_forest items) + 1
most_le_weight [] = omega arith
most_le_weight (node ∷ rest) = omega (arith, most_le_weight rest)
