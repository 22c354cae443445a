-- The room of lists makes no difference to an edit.
use Rattle.std.specs.Prelude.{◌≡◌, refl, ℕ, zero, suc, ◌+◌, Bool, true, false, if◌then◌else◌, ◌==◌, List, [], ◌∷◌, map, None}
use Rattle.std.proofs.Common.{ap, sym, ◌∙◌}
use Rattle.template_tree.specs.Programs.PlainTree.{Forest, PlainNode, PlainTree, forest, join, roomless, roomless_node, roomless_tree}
use Rattle.template_tree.specs.Programs.Slots.{count, with_slots_from}
use Rattle.template_tree.specs.Edits.Edit.{give_way, edit_below, edit_at, edit_slot, whole, node_in_slot, Put}
use Rattle.template_tree.specs.Positions.Path.{node_at}
use Rattle.template_tree.specs.Private.Restored.{with_edit}
use Rattle.template_tree.proofs.Room.Rooms.{count_roomless}
use Rattle.template_tree.proofs.Edits.SameEdits.{edit_nowhere}

-- two edits do the same to a node, but for the room of lists
abbrev pub SameWithoutRoom : (one other : PlainNode → List PlainNode) → Type 0
SameWithoutRoom one other = (node : PlainNode) → map roomless_node (one node) ≡ other (roomless_node node)

roomless_join : (items others : Forest) → roomless (join items others) ≡ join (roomless items) (roomless others)
roomless_join Forest.nil others = refl
roomless_join (Forest.cons label inner rest) others = ap (Forest.cons (record label { spare = 0 }) (roomless inner)) (roomless_join rest others)

roomless_forest : (items : List PlainNode) → roomless (forest items) ≡ forest (map roomless_node items)
roomless_forest [] = refl
roomless_forest (node ∷ rest) = ap (Forest.cons (record node.label { spare = 0 }) (roomless node.inner)) (roomless_forest rest)

-- what comes in place of a node, and the others behind it
in_place : (one other : PlainNode → List PlainNode) → SameWithoutRoom one other → (node : PlainNode) (rest : Forest)
    → roomless (join (forest (one node)) rest) ≡ join (forest (other (roomless_node node))) (roomless rest)
in_place one other same node rest =
    roomless_join (forest (one node)) rest
    ∙ ap (λ items. join items (roomless rest)) (roomless_forest (one node) ∙ ap forest (same node))

gives_way : (one other : PlainNode → List PlainNode) → SameWithoutRoom one other → (k : ℕ) (items : Forest)
    → roomless (give_way one k items) ≡ give_way other k (roomless items)
gives_way one other same k Forest.nil = refl
gives_way one other same zero (Forest.cons label inner rest) = in_place one other same record { label = label; inner = inner } rest
gives_way one other same (suc k) (Forest.cons label inner rest) =
    ap (Forest.cons (record label { spare = 0 }) (roomless inner)) (gives_way one other same k rest)

edits_below : (one other : PlainNode → List PlainNode) → SameWithoutRoom one other → (path : List ℕ)
    → SameWithoutRoom (edit_below one path) (edit_below other path)
edits_below one other same [] = same
edits_below one other same (k ∷ path) =
    λ node.
    ap (λ (inner : Forest). let new : PlainNode = record { label = record node.label { spare = 0 }; inner = inner } in new ∷ [])
    (gives_way (edit_below one path) (edit_below other path) (edits_below one other same path) k node.inner)

-- an edit at a path
pub roomless_edit : (one other : PlainNode → List PlainNode) → SameWithoutRoom one other → (path : List ℕ) (items : Forest)
    → roomless (edit_at one path items) ≡ edit_at other path (roomless items)
roomless_edit one other same [] items = refl
roomless_edit one other same (k ∷ path) items =
    gives_way (edit_below one path) (edit_below other path) (edits_below one other same path) k items

-- what gives way to nodes, where it does
slot_in_place : (b : Bool) (one other : PlainNode → List PlainNode) → SameWithoutRoom one other → (node : PlainNode) (inner rest rest' : Forest)
    → roomless rest ≡ rest'
    → (inner' : Forest) → roomless inner ≡ inner'
    → roomless (if b then join (forest (one node)) rest else Forest.cons node.label inner rest)
    ≡ (if b then join (forest (other (roomless_node node))) rest' else Forest.cons (record node.label { spare = 0 }) inner' rest')
slot_in_place true one other same node inner rest rest' r inner' i =
    in_place one other same node rest ∙ ap (join (forest (other (roomless_node node)))) r
slot_in_place false one other same node inner rest rest' r inner' i = λ j. Forest.cons (record node.label { spare = 0 }) (i j) (r j)

-- an edit by slot
pub roomless_edit_slot : (slot : ℕ) (one other : PlainNode → List PlainNode) → SameWithoutRoom one other → (items : Forest)
    → roomless (edit_slot slot one items) ≡ edit_slot slot other (roomless items)
roomless_edit_slot slot one other same Forest.nil = refl
roomless_edit_slot slot one other same (Forest.cons label inner rest) =
    slot_in_place (label.slot == slot) one other same record { label = label; inner = inner } (edit_slot slot one inner)
    (edit_slot slot one rest) (edit_slot slot other (roomless rest)) (roomless_edit_slot slot one other same rest)
    (edit_slot slot other (roomless inner)) (roomless_edit_slot slot one other same inner)

pub count_whole : (items : Forest) → count (whole items) ≡ count items
count_whole Forest.nil = refl
count_whole (Forest.cons label inner rest) = λ i. count_whole inner i + count_whole rest i + 1

roomless_drawn : (next : ℕ) (items : Forest) → roomless (with_slots_from next (whole items)) ≡ with_slots_from next (whole (roomless items))
roomless_drawn next Forest.nil = refl
roomless_drawn next (Forest.cons label inner rest) =
    let as_many : count (whole inner) ≡ count (whole (roomless inner)) =
    count_whole inner ∙ (sym (count_roomless inner) ∙ sym (count_whole (roomless inner)))
    in
    λ i.
    Forest.cons (record label { slot = next; elided = false; spare = 0 }) (roomless_drawn (next + 1) inner i)
    ((ap (λ n. roomless (with_slots_from (next + 1 + n) (whole rest))) as_many ∙ roomless_drawn (next + 1 + count (whole (roomless inner))) rest) i)

-- a node that comes into a slot
pub roomless_placed : (slot next : ℕ) (node : PlainNode) → roomless_node (node_in_slot slot next node) ≡ node_in_slot slot next (roomless_node node)
roomless_placed slot next node =
    ap (λ (inner : Forest). let new : PlainNode = record { label = record node.label { slot = slot; elided = false; spare = 0 }; inner = inner } in new)
    (roomless_drawn next node.inner)

-- nodes that are the same but for the room of their lists are as many
pub as_many : (one other : Forest) → roomless one ≡ roomless other → count one ≡ count other
as_many one other same = sym (count_roomless one) ∙ (ap count same ∙ count_roomless other)

-- a tree into which the one comes, or the other, where these are the same but for the room of their lists
pub roomless_put : (tree : PlainTree) (slot : ℕ) (one other : PlainNode) → roomless_node one ≡ roomless_node other
    → roomless_tree (Put tree slot one) ≡ roomless_tree (Put tree slot other)
roomless_put tree slot one other same =
    let placed : roomless_node (node_in_slot slot tree.drawn one) ≡ roomless_node (node_in_slot slot tree.drawn other) =
    roomless_placed slot tree.drawn one ∙ (ap (node_in_slot slot tree.drawn) same ∙ sym (roomless_placed slot tree.drawn other))
    in
    let to : PlainNode → List PlainNode = λ _. roomless_node (node_in_slot slot tree.drawn other) ∷ [] in
    let items : roomless (edit_slot slot (λ _. node_in_slot slot tree.drawn one ∷ []) tree.items)
    ≡ roomless (edit_slot slot (λ _. node_in_slot slot tree.drawn other ∷ []) tree.items)
    = roomless_edit_slot slot (λ _. node_in_slot slot tree.drawn one ∷ []) to (λ _. ap (λ n. n ∷ []) placed) tree.items
    ∙ sym (roomless_edit_slot slot (λ _. node_in_slot slot tree.drawn other ∷ []) to (λ _. refl) tree.items)
    in
    let live = as_many (edit_slot slot (λ _. node_in_slot slot tree.drawn one ∷ []) tree.items)
    (edit_slot slot (λ _. node_in_slot slot tree.drawn other ∷ []) tree.items) items
    in
    let inner : count one.inner ≡ count other.inner = as_many one.inner other.inner (ap (λ n. n.inner) same) in
    λ i. record { items = items i; spare = 0; drawn = tree.drawn + inner i; live = live i }

-- a tree of which a node was edited
pub with_edit_is : (one other : PlainNode → List PlainNode) → SameWithoutRoom one other → (path : List ℕ) (tree : PlainTree)
    → roomless_tree (with_edit one path tree) ≡ with_edit other path (roomless_tree tree)
with_edit_is one other same path tree =
    ap (λ (items : Forest). let t : PlainTree = record (roomless_tree tree) { items = items } in t) (roomless_edit one other same path tree.items)

-- where no node stands, the edit changes nothing
pub nowhere_is : (one other : PlainNode → List PlainNode) → SameWithoutRoom one other → (path : List ℕ) (tree : PlainTree)
    → node_at tree.items path ≡ None → roomless_tree tree ≡ with_edit other path (roomless_tree tree)
nowhere_is one other same path tree none =
    ap (λ (items : Forest). let t : PlainTree = record (roomless_tree tree) { items = roomless items } in t) (sym (edit_nowhere one tree.items path none))
    ∙ with_edit_is one other same path tree

-- a node that gives way to itself
stays_in : (change : PlainNode → List PlainNode) → ((node : PlainNode) → change node ≡ node ∷ []) → (k : ℕ) (items : Forest) → give_way change k items ≡ items
stays_in change same k Forest.nil = refl
stays_in change same zero (Forest.cons label inner rest) = ap (λ new. join (forest new) rest) (same record { label = label; inner = inner })
stays_in change same (suc k) (Forest.cons label inner rest) = ap (Forest.cons label inner) (stays_in change same k rest)

stays_below : (path : List ℕ) (node : PlainNode) → edit_below (λ item. item ∷ []) path node ≡ node ∷ []
stays_below [] node = refl
stays_below (k ∷ path) node =
    ap (λ (inner : Forest). let new : PlainNode = record node { inner = inner } in new ∷ [])
    (stays_in (edit_below (λ item. item ∷ []) path) (stays_below path) k node.inner)

pub stays : (path : List ℕ) (items : Forest) → edit_at (λ item. item ∷ []) path items ≡ items
stays [] items = refl
stays (k ∷ path) items = stays_in (edit_below (λ item. item ∷ []) path) (stays_below path) k items

pub roomless_twice : (items : Forest) → roomless (roomless items) ≡ roomless items
roomless_twice Forest.nil = refl
roomless_twice (Forest.cons label inner rest) = λ i. Forest.cons (record label { spare = 0 }) (roomless_twice inner i) (roomless_twice rest i)

-- what a node is without room is the same without room
pub same_roomless : (one other : PlainNode) → roomless_node one ≡ other → roomless_node one ≡ roomless_node other
same_roomless one other e =
    (λ i. record { label = record one.label { spare = 0 }; inner = sym (roomless_twice one.inner) i }) ∙ ap roomless_node e
