-- Edits of a tree, and what they change, with and without the room of lists.
use Rattle.std.specs.Prelude.{◌≡◌, refl, ℕ, ◌+◌, Bool, true, false, if◌then◌else◌, ◌==◌, nat_lt, List, [], ◌∷◌, ◌++◌, map, find, Option, Some, None, option_map}
use Rattle.std.proofs.Common.{ap, sym, ◌∙◌}
use Rattle.plcs_grammar.specs.declared.node_kind.NodeKind.{NodeKind}
use Rattle.template_tree.specs.declared.change.Change.{Change}
use Rattle.template_tree.specs.declared.change.What.{What}
use Rattle.template_tree.specs.declared.side.Side.{Side}
use Rattle.template_tree.specs.Programs.PlainTree.{Forest, PlainNode, PlainTree, nodes, forest, roomless, roomless_node, roomless_tree}
use Rattle.template_tree.specs.Programs.Part.{with_part}
use Rattle.template_tree.specs.Programs.Program.{sort_of}
use Rattle.template_tree.specs.Programs.Slots.{count, times}
use Rattle.template_tree.specs.Edits.TreeEdit.{TreeEdit, changed_slot, roomless_tree_edit, tree_after, what_of}
use Rattle.template_tree.specs.Edits.Edit.{DifferBy, Differs, changed_in, procedure_of, edit_slot, node_in_slot, with_hole, with_items}
use Rattle.template_tree.specs.Edits.Hole.{hole_list, hole_of}
use Rattle.template_tree.specs.Laws.RoomLaws.{IsSameAfter}
use Rattle.template_tree.proofs.Room.Rooms.{count_roomless, times_roomless}
use Rattle.template_tree.proofs.Room.RoomlessEdits.{SameWithoutRoom, as_many, roomless_edit_slot, roomless_placed, roomless_twice}

-- two edits that do the same to each node do the same to nodes with and without room
same_items : (slot : ℕ) (one two other : PlainNode → List PlainNode) → SameWithoutRoom one other → SameWithoutRoom two other
    → (items : Forest) → roomless (edit_slot slot one items) ≡ roomless (edit_slot slot two (roomless items))
same_items slot one two other first second items =
    roomless_edit_slot slot one other first items
    ∙ sym (roomless_edit_slot slot two other second (roomless items) ∙ ap (edit_slot slot other) (roomless_twice items))

same_trees : (one other : PlainTree) (items others : Forest) (drawn drawn' : ℕ) → roomless items ≡ roomless others → drawn ≡ drawn'
    → roomless_tree (with_items one items drawn) ≡ roomless_tree (with_items other others drawn')
same_trees one other items others drawn drawn' same d =
    let many = as_many items others same in
    λ i. record { items = same i; spare = 0; drawn = d i; live = many i }

hole_roomless : (slot : ℕ) (kind : Option NodeKind) (rest : List PlainNode)
    → map roomless_node (hole_list slot kind ++ rest) ≡ hole_list slot kind ++ map roomless_node rest
hole_roomless slot None rest = refl
hole_roomless slot (Some kind) rest = refl

lone_roomless : (slot : ℕ) (kind : Option NodeKind) → map roomless_node (hole_list slot kind) ≡ hole_list slot kind
lone_roomless slot None = refl
lone_roomless slot (Some kind) = refl

added_roomless : (slot : ℕ) (side : Side) → SameWithoutRoom (with_hole slot side) (with_hole slot side)
added_roomless slot Side.Before node = hole_roomless slot (hole_of (sort_of node.label.kind)) (node ∷ [])
added_roomless slot Side.After node = ap (λ holes. roomless_node node ∷ holes) (lone_roomless slot (hole_of (sort_of node.label.kind)))

-- the tree after an edit is the one after the edit without room of the tree without room
tree_roomless : (edit : TreeEdit) (tree : PlainTree) (slot : ℕ)
    → roomless_tree (tree_after edit tree slot) ≡ roomless_tree (tree_after (roomless_tree_edit edit) (roomless_tree tree) slot)
tree_roomless (TreeEdit.put node) tree slot =
    let one : PlainNode → List PlainNode = λ _. node_in_slot slot tree.drawn node ∷ [] in
    let two : PlainNode → List PlainNode = λ _. node_in_slot slot tree.drawn (roomless_node node) ∷ [] in
    let to : PlainNode → List PlainNode = λ _. roomless_node (node_in_slot slot tree.drawn node) ∷ [] in
    let twice : roomless_node (roomless_node node) ≡ roomless_node node =
    ap (λ (inner : Forest). let n : PlainNode = record { label = record node.label { spare = 0 }; inner = inner } in n) (roomless_twice node.inner)
    in
    let placed : roomless_node (node_in_slot slot tree.drawn (roomless_node node)) ≡ roomless_node (node_in_slot slot tree.drawn node) =
    roomless_placed slot tree.drawn (roomless_node node)
    ∙ (ap (node_in_slot slot tree.drawn) twice ∙ sym (roomless_placed slot tree.drawn node))
    in
    same_trees tree (roomless_tree tree) (edit_slot slot one tree.items) (edit_slot slot two (roomless tree.items))
    (tree.drawn + count node.inner) (tree.drawn + count (roomless node.inner))
    (same_items slot one two to (λ _. refl) (λ _. ap (λ n. n ∷ []) placed) tree.items)
    (ap (λ n. tree.drawn + n) (sym (count_roomless node.inner)))
tree_roomless (TreeEdit.add side) tree slot =
    let to : PlainNode → List PlainNode = with_hole tree.drawn side in
    same_trees tree (roomless_tree tree) (edit_slot slot to tree.items) (edit_slot slot to (roomless tree.items)) (tree.drawn + 1) (tree.drawn + 1)
    (same_items slot to to to (added_roomless tree.drawn side) (added_roomless tree.drawn side) tree.items) refl
tree_roomless TreeEdit.drop tree slot =
    let to : PlainNode → List PlainNode = λ _. [] in
    same_trees tree (roomless_tree tree) (edit_slot slot to tree.items) (edit_slot slot to (roomless tree.items)) tree.drawn tree.drawn
    (same_items slot to to to (λ _. refl) (λ _. refl) tree.items) refl
tree_roomless (TreeEdit.set_part part place) tree slot =
    let to : PlainNode → List PlainNode = λ node. with_part part place node ∷ [] in
    same_trees tree (roomless_tree tree) (edit_slot slot to tree.items) (edit_slot slot to (roomless tree.items)) tree.drawn tree.drawn
    (same_items slot to to to (λ _. refl) (λ _. refl) tree.items) refl

what_roomless : (edit : TreeEdit) → what_of (roomless_tree_edit edit) ≡ what_of edit
what_roomless (TreeEdit.put node) = refl
what_roomless (TreeEdit.add side) = refl
what_roomless TreeEdit.drop = refl
what_roomless (TreeEdit.set_part part place) = refl

slot_roomless : (edit : TreeEdit) (tree : PlainTree) (slot : ℕ) → changed_slot (roomless_tree_edit edit) (roomless_tree tree) slot ≡ changed_slot edit tree slot
slot_roomless (TreeEdit.put node) tree slot = refl
slot_roomless (TreeEdit.add side) tree slot = refl
slot_roomless TreeEdit.drop tree slot = refl
slot_roomless (TreeEdit.set_part part place) tree slot = refl

-- a tree without room is the same without room
tree_twice : (tree : PlainTree) → roomless_tree (roomless_tree tree) ≡ roomless_tree tree
tree_twice tree = ap (λ (items : Forest). let t : PlainTree = record (roomless_tree tree) { items = items } in t) (roomless_twice tree.items)

pub same_after : (one other : TreeEdit) (before : PlainTree) (slot : ℕ) → roomless_tree_edit one ≡ roomless_tree_edit other → IsSameAfter one other before slot
same_after one other before slot same =
    let bare : PlainTree = roomless_tree before in
    record {
      tree =
          tree_roomless one before slot
          ∙ (ap (λ edit. roomless_tree (tree_after edit bare slot)) same
          ∙ (ap (λ tree. roomless_tree (tree_after (roomless_tree_edit other) tree slot)) (sym (tree_twice before)) ∙ sym (tree_roomless other bare slot)));
      what = sym (what_roomless one) ∙ (ap what_of same ∙ what_roomless other);
      slot_is =
          sym (slot_roomless one before slot)
          ∙ (ap (λ edit. changed_slot edit bare slot) same
          ∙ (ap (λ tree. changed_slot (roomless_tree_edit other) tree slot) (sym (tree_twice before)) ∙ slot_roomless other bare slot));
    }

procedure_if : (b : Bool) (item : PlainNode) (one other : Option PlainNode)
    → option_map (λ (found : PlainNode). found.label.slot) one ≡ option_map (λ (found : PlainNode). found.label.slot) other
    → option_map (λ (found : PlainNode). found.label.slot) (if b then Some (roomless_node item) else one)
    ≡ option_map (λ (found : PlainNode). found.label.slot) (if b then Some item else other)
procedure_if true item one other same = refl
procedure_if false item one other same = same

-- a slot stands in the same procedure
pub procedure_roomless : (items : Forest) (slot : ℕ) → procedure_of (roomless items) slot ≡ procedure_of items slot
procedure_roomless Forest.nil slot = refl
procedure_roomless (Forest.cons label inner rest) slot =
    let holds : PlainNode → Bool = λ item. nat_lt 0 (times slot (forest (item ∷ []))) in
    let item : PlainNode = record { label = label; inner = inner } in
    let same : holds (roomless_node item) ≡ holds item =
    ap (λ n. nat_lt 0 ((if label.slot == slot then 1 else 0) + (n + 0))) (times_roomless slot inner)
    in
    ap
    (λ (b : Bool).
    option_map (λ (found : PlainNode). found.label.slot) (if b then Some (roomless_node item) else find holds (nodes (roomless rest))))
    same
    ∙ procedure_if (holds item) item (find holds (nodes (roomless rest))) (find holds (nodes rest)) (procedure_roomless rest slot)

differ_roomless : (what : What) (slot : ℕ) (before after : Forest) → DifferBy what slot before after
    → DifferBy what slot (roomless before) (roomless after)
differ_roomless What.Node slot before after h =
    let to : PlainNode → List PlainNode = λ _. h.0 ∷ [] in
    (h.0, h.1, roomless_twice after ∙ (h.2 ∙ same_items slot to to (λ _. roomless_node h.0 ∷ []) (λ _. refl) (λ _. refl) before))
differ_roomless (What.Part part) slot before after h =
    let to : PlainNode → List PlainNode = λ node. with_part part h.0 node ∷ [] in
    (h.0, roomless_twice after ∙ (h.1 ∙ same_items slot to to to (λ _. refl) (λ _. refl) before))
differ_roomless What.Added slot before after h =
    let to : PlainNode → List PlainNode = λ _. [] in
    (times_roomless slot after ∙ h.0, roomless_twice before ∙ (h.1 ∙ same_items slot to to to (λ _. refl) (λ _. refl) after))
differ_roomless What.Dropped slot before after h =
    let to : PlainNode → List PlainNode = λ _. [] in
    (times_roomless slot before ∙ h.0, roomless_twice after ∙ (h.1 ∙ same_items slot to to to (λ _. refl) (λ _. refl) before))

differ_with_room : (what : What) (slot : ℕ) (before after : Forest) → DifferBy what slot (roomless before) (roomless after)
    → DifferBy what slot before after
differ_with_room What.Node slot before after h =
    let to : PlainNode → List PlainNode = λ _. h.0 ∷ [] in
    (h.0, h.1, sym (roomless_twice after) ∙ (h.2 ∙ sym (same_items slot to to (λ _. roomless_node h.0 ∷ []) (λ _. refl) (λ _. refl) before)))
differ_with_room (What.Part part) slot before after h =
    let to : PlainNode → List PlainNode = λ node. with_part part h.0 node ∷ [] in
    (h.0, sym (roomless_twice after) ∙ (h.1 ∙ sym (same_items slot to to to (λ _. refl) (λ _. refl) before)))
differ_with_room What.Added slot before after h =
    let to : PlainNode → List PlainNode = λ _. [] in
    (sym (times_roomless slot after) ∙ h.0, sym (roomless_twice before) ∙ (h.1 ∙ sym (same_items slot to to to (λ _. refl) (λ _. refl) after)))
differ_with_room What.Dropped slot before after h =
    let to : PlainNode → List PlainNode = λ _. [] in
    (sym (times_roomless slot before) ∙ h.0, sym (roomless_twice after) ∙ (h.1 ∙ sym (same_items slot to to to (λ _. refl) (λ _. refl) before)))

changed_roomless : (what : What) (before after : Forest) → changed_in what (roomless before) (roomless after) ≡ roomless (changed_in what before after)
changed_roomless What.Node before after = refl
changed_roomless (What.Part part) before after = refl
changed_roomless What.Added before after = refl
changed_roomless What.Dropped before after = refl

-- the change is in the same procedure
within_roomless : (before after : PlainTree) (change : Change)
    → procedure_of (changed_in change.what (roomless before.items) (roomless after.items)) change.slot.0
    ≡ procedure_of (changed_in change.what before.items after.items) change.slot.0
within_roomless before after change =
    ap (λ items. procedure_of items change.slot.0) (changed_roomless change.what before.items after.items)
    ∙ procedure_roomless (changed_in change.what before.items after.items) change.slot.0

-- trees that differ by a change differ by it without room
pub differs_roomless : (before after : PlainTree) (change : Change) → Differs before after change
    → Differs (roomless_tree before) (roomless_tree after) change
differs_roomless before after change h =
    record {
      by = differ_roomless change.what change.slot.0 before.items after.items h.by;
      within = within_roomless before after change ∙ h.within;
    }

-- trees that differ by a change without room differ by it
pub differs_with_room : (before after : PlainTree) (change : Change) → Differs (roomless_tree before) (roomless_tree after) change
    → Differs before after change
differs_with_room before after change h =
    record {
      by = differ_with_room change.what change.slot.0 before.items after.items h.by;
      within = sym (within_roomless before after change) ∙ h.within;
    }
