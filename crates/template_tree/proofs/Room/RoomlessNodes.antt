-- Nodes at paths, and where the cursor may stand, with and without the room of lists.
use Rattle.std.specs.Prelude.{◌≡◌, refl, ℕ, zero, suc, Bool, true, false, if◌then◌else◌, List, [], ◌∷◌, Option, Some, None, IsSomeAnd, option_map, option_and_then, slice_get}
use Rattle.std.proofs.Common.{ap, ◌∙◌, subst}
use Rattle.template_tree.specs.Programs.PlainTree.{Forest, PlainNode, nodes, roomless, roomless_node}
use Rattle.template_tree.specs.Positions.Path.{below, node_at, slot_at}
use Rattle.template_tree.specs.Positions.Stop.{IsStop, MayStand, PlainStop, visible_below, visible_at}

pub item_roomless : (items : Forest) (k : ℕ) → slice_get (nodes (roomless items)) k ≡ option_map roomless_node (slice_get (nodes items) k)
item_roomless Forest.nil k = refl
item_roomless (Forest.cons label inner rest) zero = refl
item_roomless (Forest.cons label inner rest) (suc k) = item_roomless rest k

-- a look below an item, if there is one
in_item : (look : PlainNode → Option PlainNode) → ((node : PlainNode) → look (roomless_node node) ≡ option_map roomless_node (look node))
    → (found : Option PlainNode)
    → option_and_then look (option_map roomless_node found) ≡ option_map roomless_node (option_and_then look found)
in_item look same None = refl
in_item look same (Some node) = same node

pub below_roomless : (path : List ℕ) (node : PlainNode) → below (roomless_node node) path ≡ option_map roomless_node (below node path)
below_roomless [] node = refl
below_roomless (k ∷ path) node =
    ap (λ found. option_and_then (λ item. below item path) found) (item_roomless node.inner k)
    ∙ in_item (λ item. below item path) (below_roomless path) (slice_get (nodes node.inner) k)

pub node_roomless : (items : Forest) (path : List ℕ) → node_at (roomless items) path ≡ option_map roomless_node (node_at items path)
node_roomless items [] = refl
node_roomless items (k ∷ path) =
    ap (λ found. option_and_then (λ item. below item path) found) (item_roomless items k)
    ∙ in_item (λ item. below item path) (below_roomless path) (slice_get (nodes items) k)

unless_hidden : (b : Bool) (one other : Option PlainNode) → one ≡ option_map roomless_node other
    → (if b then None else one) ≡ option_map roomless_node (if b then None else other)
unless_hidden true one other same = refl
unless_hidden false one other same = same

pub visible_below_roomless : (path : List ℕ) (node : PlainNode)
    → visible_below (roomless_node node) path ≡ option_map roomless_node (visible_below node path)
visible_below_roomless [] node = refl
visible_below_roomless (k ∷ path) node =
    unless_hidden node.label.elided (option_and_then (λ item. visible_below item path) (slice_get (nodes (roomless node.inner)) k))
    (option_and_then (λ item. visible_below item path) (slice_get (nodes node.inner) k))
    (ap (λ found. option_and_then (λ item. visible_below item path) found) (item_roomless node.inner k)
    ∙ in_item (λ item. visible_below item path) (visible_below_roomless path) (slice_get (nodes node.inner) k))

pub visible_roomless : (items : Forest) (path : List ℕ) → visible_at (roomless items) path ≡ option_map roomless_node (visible_at items path)
visible_roomless items [] = refl
visible_roomless items (k ∷ path) =
    ap (λ found. option_and_then (λ item. visible_below item path) found) (item_roomless items k)
    ∙ in_item (λ item. visible_below item path) (visible_below_roomless path) (slice_get (nodes items) k)

stand_roomless : (part : Option ℕ) (found : Option PlainNode)
    → IsSomeAnd found (λ node. MayStand part node.label.kind)
    → IsSomeAnd (option_map roomless_node found) (λ node. MayStand part node.label.kind)
stand_roomless part None h = absurd h
stand_roomless part (Some node) h = h

stand_with_room : (part : Option ℕ) (found : Option PlainNode)
    → IsSomeAnd (option_map roomless_node found) (λ node. MayStand part node.label.kind)
    → IsSomeAnd found (λ node. MayStand part node.label.kind)
stand_with_room part None h = absurd h
stand_with_room part (Some node) h = h

pub stop_roomless : (items : Forest) (stop : PlainStop) → IsStop items stop → IsStop (roomless items) stop
stop_roomless items stop h =
    rw (visible_roomless items stop.path) (stand_roomless stop.part (visible_at items stop.path) h)

pub stop_with_room : (items : Forest) (stop : PlainStop) → IsStop (roomless items) stop → IsStop items stop
stop_with_room items stop h =
    stand_with_room stop.part (visible_at items stop.path)
    (subst (λ found. IsSomeAnd found (λ (node : PlainNode). MayStand stop.part node.label.kind)) (visible_roomless items stop.path) h)

slot_of_found : (found : Option PlainNode)
    → option_map (λ (node : PlainNode). node.label.slot) (option_map roomless_node found) ≡ option_map (λ (node : PlainNode). node.label.slot) found
slot_of_found None = refl
slot_of_found (Some node) = refl

pub slot_at_roomless : (items : Forest) (path : List ℕ) → slot_at (roomless items) path ≡ slot_at items path
slot_at_roomless items path =
    ap (option_map (λ (node : PlainNode). node.label.slot)) (node_roomless items path) ∙ slot_of_found (node_at items path)
