-- Items and stops, with and without the room of lists.
use Rattle.std.specs.Prelude.{◌≡◌, refl, ℕ, [], ◌∷◌, Option, Some, None, option_and_then, option_map, slice_get}
use Rattle.std.proofs.Common.{ap, sym, ◌∙◌}
use Rattle.template_tree.specs.Positions.Path.{below}
use Rattle.template_tree.specs.Programs.PlainTree.{Forest, PlainNode, nodes, roomless, roomless_node}
use Rattle.template_tree.specs.Positions.Stop.{IsStop, PlainStop}
use Rattle.session_edit.specs.Private.RoomLaws.{RoomLaws}

-- the node at an empty path below an item is the item
pub itself : (found : Option PlainNode) → option_and_then (λ item. below item []) found ≡ found
itself None = refl
itself (Some node) = refl

pub item_roomless : RoomLaws → (items : Forest) (k : ℕ) → slice_get (nodes (roomless items)) k ≡ option_map roomless_node (slice_get (nodes items) k)
item_roomless room items k =
    sym (itself (slice_get (nodes (roomless items)) k))
    ∙ (room.nodes items (k ∷ []) ∙ ap (option_map roomless_node) (itself (slice_get (nodes items) k)))

-- the cursor may stand at a stop with and without room
pub stop_roomless : RoomLaws → (items : Forest) (stop : PlainStop) → IsStop items stop → IsStop (roomless items) stop
stop_roomless room items stop h = (room.standing items stop).1 h

pub stop_with_room : RoomLaws → (items : Forest) (stop : PlainStop) → IsStop (roomless items) stop → IsStop items stop
stop_with_room room items stop h = (room.standing items stop).0 h
