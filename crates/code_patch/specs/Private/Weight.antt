-- How large kept nodes are: what is kept inside a node is smaller than the node.
use Rattle.std.specs.Prelude.{ℕ, suc, ◌+◌, ◌≤◌, List, [], ◌∷◌}
use Rattle.std.proofs.Common.{arith}
use denote.Param.Weighed.{most}
use Rattle.code_patch.specs.CodeForest.{CodeForest, PlainCodeNode}
use Rattle.code_patch.specs.Private.PlainCodeNode.{PlainCodeNodes, code_forest}

-- how large kept nodes are: two for each, since a node and its list take turns
abbrev pub code_forest_weight : CodeForest → ℕ
code_forest_weight CodeForest.nil = 0
code_forest_weight (CodeForest.cons own spare inner rest) =
    suc (suc (code_forest_weight inner + code_forest_weight rest))

-- how large a kept node is
abbrev pub weight : PlainCodeNode → ℕ
weight node = suc (suc (code_forest_weight node.inner))

-- how large a list of kept nodes is
abbrev pub list_weight : PlainCodeNodes → ℕ
list_weight list = suc (code_forest_weight (code_forest list.items))

-- no kept node is larger than the list in which it stands
pub most_le_weight : (items : List PlainCodeNode)
    → most (λ node. weight node + 1) items ≤ code_forest_weight (code_forest items) + 1
most_le_weight [] = omega arith
most_le_weight (node ∷ rest) = omega (arith, most_le_weight rest)
