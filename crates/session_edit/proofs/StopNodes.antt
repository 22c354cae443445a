-- What may be done at a stop, at the node there.
use Rattle.std.specs.Prelude.{◌≡◌, refl, ℕ, false, Option, Some, None, option_and_then, option_map}
use Rattle.std.specs.Option.{option_map_or}
use Rattle.std.proofs.Common.{ap, ◌∙◌}
use Rattle.template_tree.specs.Programs.PlainTree.{PlainNode, PlainTree, roomless_node, roomless_tree}
use Rattle.template_tree.specs.Positions.Path.{node_at}
use Rattle.template_tree.specs.Positions.Stop.{PlainStop}
use Rattle.session_edit.specs.Here.{can_take, category_at, category_in, takes_at}
use Rattle.session_edit.specs.Private.RoomLaws.{RoomLaws}

same_take : (part : Option ℕ) (node : PlainNode) → can_take part (roomless_node node) ≡ can_take part node
same_take None node = refl
same_take (Some part) node = refl

take_there : (part : Option ℕ) (found : Option PlainNode)
    → option_map_or (can_take part) (option_map roomless_node found) false ≡ option_map_or (can_take part) found false
take_there part None = refl
take_there part (Some node) = same_take part node

-- whether something can be taken out at a stop, by the node of the tree there
pub takes_is : RoomLaws → (tree : PlainTree) (stop : PlainStop)
    → takes_at (roomless_tree tree) stop ≡ option_map_or (can_take stop.part) (node_at tree.items stop.path) false
unfolding takes_at
takes_is room tree stop =
    ap (λ found. option_map_or (can_take stop.part) found false) (room.nodes tree.items stop.path)
    ∙ take_there stop.part (node_at tree.items stop.path)

category_there : (part : Option ℕ) (found : Option PlainNode)
    → option_and_then (λ node. category_in part node.label.kind) (option_map roomless_node found)
    ≡ option_and_then (λ node. category_in part node.label.kind) found
category_there part None = refl
category_there part (Some node) = refl

-- the category that phrase text has at a stop, by the node of the tree there
pub category_is : RoomLaws → (tree : PlainTree) (stop : PlainStop)
    → category_at (roomless_tree tree) stop ≡ option_and_then (λ node. category_in stop.part node.label.kind) (node_at tree.items stop.path)
unfolding category_at
category_is room tree stop =
    ap (λ found. option_and_then (λ (node : PlainNode). category_in stop.part node.label.kind) found) (room.nodes tree.items stop.path)
    ∙ category_there stop.part (node_at tree.items stop.path)
