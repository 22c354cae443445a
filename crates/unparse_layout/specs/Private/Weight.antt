-- How large layouts are: what stands inside a node is smaller than the node.
use Rattle.std.specs.Prelude.{ℕ, suc, ◌+◌, ◌≤◌, List, [], ◌∷◌}
use Rattle.std.proofs.Common.{arith}
use denote.Param.Weighed.{most}
use Rattle.unparse_layout.specs.Bones.{PlainLayout}
use Rattle.unparse_layout.specs.Private.PlainNodeLayout.{PlainNodeLayout, PlainNodeLayouts, bones}

-- how large the nodes of a layout are: two for each, since a node and its list take turns
abbrev pub bones_weight : PlainLayout → ℕ
bones_weight PlainLayout.nil = 0
bones_weight (PlainLayout.cons bone inner rest) = suc (suc (bones_weight inner + bones_weight rest))

-- how large a node of a layout is
abbrev pub weight : PlainNodeLayout → ℕ
weight node_layout = suc (suc (bones_weight node_layout.inner))

-- how large a list of nodes of a layout is
abbrev pub list_weight : PlainNodeLayouts → ℕ
list_weight list = suc (bones_weight (bones list.items))

-- no node of a layout is heavier than the list in which it stands
pub most_le_weight : (items : List PlainNodeLayout)
    → most (λ node_layout. weight node_layout + 1) items ≤ bones_weight (bones items) + 1
most_le_weight [] = omega arith
most_le_weight (node_layout ∷ rest) = omega (arith, most_le_weight rest)
