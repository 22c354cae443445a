-- What comes of an edit, and what is answered to it.
use Rattle.std.specs.Prelude.{◌≡◌, refl, ℕ, ◌<◌, ◌≤◌, Bool, true, false, nat_lt, List, Option, Some, None, IfSome, IsSomeAnd, option_map}
use Rattle.std.proofs.Common.{ap, sym, ◌∙◌, subst, arith}
use Rattle.std.proofs.lemmas.Bool.Decides.{Decides-ltb}
use Rattle.std.proofs.lemmas.Bool.{false_from_ne_true}
use Rattle.template_tree.specs.declared.stop.Stop.{Stop}
use Rattle.template_tree.specs.declared.tree_fault.TreeFault.{TreeFault}
use Rattle.template_tree.specs.Edits.Edit.{edit_at, edit_slot, with_items}
use Rattle.template_tree.specs.Edits.EditAnswer.{IsEdit, IsOverTreeLimit, IsWithin, Refuses}
use Rattle.template_tree.specs.Programs.Limit.{deepest_path, most_slots, most_drawn_slots}
use Rattle.template_tree.specs.Positions.Path.{node_at}
use Rattle.template_tree.specs.Programs.PlainTree.{PlainNode, PlainTree, roomless, roomless_node, roomless_tree}
use Rattle.template_tree.specs.Programs.Program.{IsSubtree}
use Rattle.template_tree.specs.Edits.Receipt.{PlainReceipt}
use Rattle.template_tree.specs.Laws.RoomLaws.{IsSameAfter}
use Rattle.template_tree.specs.Programs.Slots.{depth}
use Rattle.template_tree.specs.Positions.Stop.{IsStop, MayStand, PlainStop, plain_stop, visible_at}
use Rattle.template_tree.specs.Programs.Tree.{IsTree}
use Rattle.template_tree.specs.Edits.TreeEdit.{TreeEdit, changed_slot, tree_after, what_of}
use Rattle.template_tree.specs.Laws.TreeLaws.{SlotEditIsPathEdit}
use Rattle.session_edit.specs.AppliedEdit.{IsApplied, IsRefused, is_made}
use Rattle.session_edit.specs.Cursor.{onward}
use Rattle.session_edit.specs.Edited.{Edited, comes, comes_onward, edited, outcome_at_node, at_node, limit_reached, not_here, unless}
use Rattle.session_edit.specs.PlainEdit.{PlainEdit}
use Rattle.session_edit.specs.Private.RoomLaws.{RoomLaws}
use Rattle.session_edit.proofs.Room.{stop_roomless, stop_with_room}
use Rattle.session_edit.proofs.VisibleEdits.{visible_node}

above : (a b : ℕ) → a < b → nat_lt a b ≡ true
above a b h = (Decides-ltb a b).1 h

not_above : (a b : ℕ) → b ≤ a → nat_lt a b ≡ false
not_above a b h = false_from_ne_true (nat_lt a b) (λ e. let over = (Decides-ltb a b).0 e in absurd (omega arith))

within_depth : RoomLaws → (tree : PlainTree) → depth tree.items ≤ deepest_path → nat_lt deepest_path (depth (roomless tree.items)) ≡ false
within_depth room tree h = not_above deepest_path (depth (roomless tree.items)) (omega (arith, room.depths tree.items))

-- a tree within the limits is over none
pub within_is : RoomLaws → (tree : PlainTree) → IsWithin tree → limit_reached (roomless_tree tree) ≡ None
within_is room tree h =
    rw (within_depth room tree h.shallow) (rw (not_above most_slots tree.live h.few) (rw (not_above most_drawn_slots tree.drawn h.drawn_few) refl))

-- a tree is within the limits
tree_within : (tree : PlainTree) → IsTree tree → IsWithin tree
tree_within tree t = record { shallow = t.shallow; few = omega (arith, t.live, t.few); drawn_few = t.drawn_few }

pub too_deep : RoomLaws → (tree : PlainTree) → IsOverTreeLimit TreeFault.TooDeep tree → limit_reached (roomless_tree tree) ≡ Some TreeFault.TooDeep
too_deep room tree h = rw (above deepest_path (depth (roomless tree.items)) (omega (arith, room.depths tree.items))) refl

pub too_large : RoomLaws → (tree : PlainTree) → IsOverTreeLimit TreeFault.TooLarge tree → limit_reached (roomless_tree tree) ≡ Some TreeFault.TooLarge
too_large room tree h = rw (within_depth room tree h.0) (rw (above most_slots tree.live h.1) refl)

pub used_up : RoomLaws → (tree : PlainTree) → IsOverTreeLimit TreeFault.SlotsUsedUp tree → limit_reached (roomless_tree tree) ≡ Some TreeFault.SlotsUsedUp
used_up room tree h =
    rw (within_depth room tree h.0) (rw (not_above most_slots tree.live h.1) (rw (above most_drawn_slots tree.drawn h.2) refl))

-- what comes of an edit where this is the tree after it
abbrev outcome_with : TreeEdit → PlainTree → ℕ → PlainTree → PlainStop → Option PlainNode → Edited
outcome_with edit before slot tree stop taken =
    Edited.became tree stop taken (what_of edit) (changed_slot edit (roomless_tree before) slot)

-- what comes of an edit where this is the tree after it, unless that is over a limit
abbrev made_with : TreeEdit → PlainTree → ℕ → PlainTree → PlainStop → Option PlainNode → Edited
made_with edit before slot tree stop taken = unless (limit_reached tree) (outcome_with edit before slot tree stop taken)

-- an edit that was made is what was to come
pub applied_is : RoomLaws → (outcome : Edited) (one other : TreeEdit) (slot : ℕ) (before after : PlainTree) (receipt : PlainReceipt)
    (back : Option PlainNode) (stop : Stop) (at : PlainStop)
    → IsEdit one slot before after receipt back → IsSameAfter one other before slot
    → outcome ≡ comes other (roomless_tree before) slot at (option_map roomless_node back)
    → plain_stop stop ≡ at → IsStop (roomless after.items) (plain_stop stop) → IfSome back IsSubtree
    → IsApplied outcome before after record { receipt = receipt; taken = back; stop = stop }
applied_is room outcome one other slot before after receipt back stop at edit same e at_is seen sound =
    let tree : roomless_tree (tree_after other (roomless_tree before) slot) ≡ roomless_tree after = sym (edit.became ∙ same.tree) in
    let what : what_of other ≡ receipt.change.what = sym (edit.what ∙ same.what) in
    let changed : changed_slot other (roomless_tree before) slot ≡ receipt.change.slot.0 = sym (edit.slot_is ∙ same.slot_is) in
    let there : at ≡ plain_stop stop = sym at_is in
    record {
      became =
          e ∙ (ap (λ t. made_with other before slot t at (option_map roomless_node back)) tree
          ∙ (ap (λ limit. unless limit (outcome_with other before slot (roomless_tree after) at (option_map roomless_node back)))
          (within_is room after (tree_within after edit.tree))
          ∙ (λ i. Edited.became (roomless_tree after) (there i) (option_map roomless_node back) (what i) (changed i))));
      tree = edit.tree;
      stop = seen;
      change = (room.changes before after receipt.change).0 edit.differs;
      undoes = edit.undoes;
      can_undo = edit.can_undo;
      can_revert = edit.can_revert;
      drawn = edit.drawn;
      subtree = sound;
    }

-- an edit that was made is what was to come, with the cursor onward
pub onward_applied : RoomLaws → (outcome : Edited) (one other : TreeEdit) (slot : ℕ) (before after : PlainTree) (receipt : PlainReceipt)
    (stop : Stop) (at : PlainStop)
    → IsEdit one slot before after receipt None → IsSameAfter one other before slot
    → outcome ≡ comes_onward other (roomless_tree before) slot at
    → plain_stop stop ≡ onward (roomless after.items) at → IsStop (roomless after.items) (plain_stop stop)
    → IsApplied outcome before after record { receipt = receipt; taken = None; stop = stop }
onward_applied room outcome one other slot before after receipt stop at edit same e stop_is seen =
    let new = roomless_tree (tree_after other (roomless_tree before) slot) in
    let tree : roomless_tree after ≡ new = edit.became ∙ same.tree in
    let there : plain_stop stop ≡ onward new.items at = stop_is ∙ ap (λ (t : PlainTree). onward t.items at) tree in
    applied_is room outcome one other slot before after receipt None stop (onward new.items at) edit same e there
    seen tt

-- why an edit is refused
pub refused_is : RoomLaws → (one other : TreeEdit) (before : PlainTree) (node : PlainNode) (Here : PlainNode → Type 0) (outcome : Edited)
    (at : PlainStop) (taken : Option PlainNode)
    → IsSameAfter one other before node.label.slot
    → (Here node → outcome ≡ comes other (roomless_tree before) node.label.slot at taken)
    → ((Here node → ⊥) → outcome ≡ not_here)
    → (fault : TreeFault) → Refuses one (Some node) Here before fault → IsRefused true outcome fault
refused_is room one other before node Here outcome at taken same e missing TreeFault.NotHere h = missing h
refused_is room one other before node Here outcome at taken same e missing TreeFault.TooDeep h =
    e h.0 ∙ (ap (λ t. made_with other before node.label.slot t at taken) (sym same.tree)
    ∙ ap (λ limit. unless limit (outcome_with other before node.label.slot (roomless_tree (tree_after one before node.label.slot)) at taken)) (too_deep room (tree_after one before node.label.slot) h.1))
refused_is room one other before node Here outcome at taken same e missing TreeFault.TooLarge h =
    e h.0 ∙ (ap (λ t. made_with other before node.label.slot t at taken) (sym same.tree)
    ∙ ap (λ limit. unless limit (outcome_with other before node.label.slot (roomless_tree (tree_after one before node.label.slot)) at taken)) (too_large room (tree_after one before node.label.slot) h.1))
refused_is room one other before node Here outcome at taken same e missing TreeFault.SlotsUsedUp h =
    e h.0 ∙ (ap (λ t. made_with other before node.label.slot t at taken) (sym same.tree)
    ∙ ap (λ limit. unless limit (outcome_with other before node.label.slot (roomless_tree (tree_after one before node.label.slot)) at taken)) (used_up room (tree_after one before node.label.slot) h.1))
refused_is room one other before node Here outcome at taken same e missing TreeFault.OutOfMemory h =
    let made : outcome ≡ outcome_with other before node.label.slot (roomless_tree (tree_after one before node.label.slot)) at taken =
    e h.0 ∙ (ap (λ t. made_with other before node.label.slot t at taken) (sym same.tree)
    ∙ ap (λ limit. unless limit (outcome_with other before node.label.slot (roomless_tree (tree_after one before node.label.slot)) at taken)) (within_is room (tree_after one before node.label.slot) h.1))
    in
    (refl, ap is_made made)

-- an edit that takes no memory isn't refused for want of it
pub without_memory : (outcome : Edited) (fault : TreeFault) → IsRefused true outcome fault → (fault ≡ TreeFault.OutOfMemory → ⊥)
    → IsRefused false outcome fault
without_memory outcome TreeFault.NotHere h wants = h
without_memory outcome TreeFault.TooDeep h wants = h
without_memory outcome TreeFault.TooLarge h wants = h
without_memory outcome TreeFault.SlotsUsedUp h wants = h
without_memory outcome TreeFault.OutOfMemory h wants = absurd (wants refl)

-- an edit is refused where what it needs isn't there
pub not_here_is : (memory : Bool) (outcome : Edited) (fault : TreeFault) → fault ≡ TreeFault.NotHere → outcome ≡ not_here
    → IsRefused memory outcome fault
not_here_is memory outcome fault e same = subst (IsRefused memory outcome) (sym e) same

-- the node at a stop
pub record Node (tree : PlainTree) (at : PlainStop) : Type 0 where
  pub node : PlainNode
  pub seen : visible_at tree.items at.path ≡ Some node
  pub there : node_at tree.items at.path ≡ Some node
  pub stands : MayStand at.part node.label.kind

pub node_there : RoomLaws → (tree : PlainTree) (at : PlainStop) → IsStop (roomless_tree tree).items at → Node tree at
node_there room tree at stop = on_found (visible_at tree.items at.path) refl (stop_with_room room tree.items at stop)
  where
    on_found : (found : Option PlainNode) → visible_at tree.items at.path ≡ found
        → IsSomeAnd found (λ node. MayStand at.part node.label.kind) → Node tree at
    on_found None e h = absurd h
    on_found (Some node) e h = record { node = node; seen = e; there = visible_node tree.items at.path node e; stands = h }

-- what comes of an edit, by the node at the stop
pub edited_is : RoomLaws → (tree : PlainTree) (at : PlainStop) (edit : PlainEdit) (node : PlainNode) → node_at tree.items at.path ≡ Some node
    → edited (roomless_tree tree) at edit ≡ outcome_at_node (roomless_tree tree) at edit (roomless_node node)
unfolding edited
edited_is room tree at edit node e =
    ap (at_node (outcome_at_node (roomless_tree tree) at edit)) (room.nodes tree.items at.path ∙ ap (option_map roomless_node) e)

-- the nodes after an edit by slot are those after the edit at the path
pub items_after : SlotEditIsPathEdit → (before after : PlainTree) (path : List ℕ) (node : PlainNode) (change : PlainNode → List PlainNode)
    (drawn : ℕ)
    → IsTree before → node_at before.items path ≡ Some node
    → roomless_tree after ≡ roomless_tree (with_items before (edit_slot node.label.slot change before.items) drawn)
    → roomless after.items ≡ roomless (edit_at change path before.items)
items_after law before after path node change drawn tree there became =
    ap (λ (t : PlainTree). t.items) became ∙ ap roomless (law change before.items path node (tree.once node.label.slot) there)

-- the cursor may stand where a visible node stands after the edit
pub stands_after : RoomLaws → SlotEditIsPathEdit → (before after : PlainTree) (path : List ℕ) (node : PlainNode) (change : PlainNode → List PlainNode)
    (drawn : ℕ) (at : PlainStop) (new : PlainNode)
    → IsTree before → node_at before.items path ≡ Some node
    → roomless_tree after ≡ roomless_tree (with_items before (edit_slot node.label.slot change before.items) drawn)
    → visible_at (edit_at change path before.items) at.path ≡ Some new → MayStand at.part new.label.kind
    → IsStop (roomless after.items) at
stands_after room law before after path node change drawn at new tree there became seen stands =
    subst (λ items. IsStop items at) (sym (items_after law before after path node change drawn tree there became))
    (stop_roomless room (edit_at change path before.items) at
    (subst (λ found. IsSomeAnd found (λ (n : PlainNode). MayStand at.part n.label.kind)) (sym seen) stands))
