-- Earlier trees that come back, with the slots that are drawn by now, and the reversal of edits by their receipts.
use Rattle.std.specs.Prelude.{◌≡◌, ℕ, ◌+◌, ◌≤◌, Bool, ◌&&◌, ◌==◌, if◌then◌else◌, [], ◌∷◌, Option, Some, None, IfSome, IsSomeAnd, option_and_then, option_map, unwrap_or}
use Rattle.std.specs.Option.{option_or}
use Rattle.template_tree.specs.declared.change.Change.{Change}
use Rattle.template_tree.specs.declared.change.What.{What}
use Rattle.template_tree.specs.Positions.Path.{node_at}
use Rattle.template_tree.specs.Programs.PlainTree.{Forest, Label, PlainNode, PlainTree, forest, roomless_node, roomless_tree}
use Rattle.template_tree.specs.Programs.Tree.{IsTree}
use Rattle.template_tree.specs.Edits.Edit.{Differs, changed_in, procedure_of}
use Rattle.template_tree.specs.Edits.Elision.{is_comment}
use Rattle.template_tree.specs.Edits.Receipt.{HasRoomBack, PlainReceipt, PlainUndoing, list_room, undone}

-- ---- the elision of what comes back

-- whether the comment in the slot is elided, if one stands there, among nodes or inside them
abbrev pub elision_in : ℕ → Forest → Option Bool
elision_in slot Forest.nil = None
elision_in slot (Forest.cons label inner rest) =
    if is_comment label.kind && label.slot == slot
    then Some label.elided
    else option_or (elision_in slot inner) (elision_in slot rest)

-- whether a node of an earlier tree is elided once it comes back, where these are the nodes now: a comment that
-- stands now too exactly where it is now, and each other node as it was
abbrev pub elided_now : Forest → Label → Bool
elided_now now label =
    if is_comment label.kind then unwrap_or (elision_in label.slot now) label.elided else label.elided

-- nodes of an earlier tree, each comment of which that stands now too is elided exactly where it is now
abbrev pub with_elision_of : (now : Forest) → Forest → Forest
with_elision_of now Forest.nil = Forest.nil
with_elision_of now (Forest.cons label inner rest) =
    Forest.cons (record label { elided = elided_now now label }) (with_elision_of now inner) (with_elision_of now rest)

-- the edit of a tree that goes back: the earlier tree with as many slots drawn as are now, in which each comment that
-- stands now too is elided exactly where it is now
abbrev pub Back : (now earlier : PlainTree) → PlainTree
Back now earlier = record earlier { items = with_elision_of now.items earlier.items; drawn = now.drawn }

-- how often a comment stands in the slot, among nodes and inside them
abbrev pub comments : ℕ → Forest → ℕ
comments slot Forest.nil = 0
comments slot (Forest.cons label inner rest) =
    (if is_comment label.kind && label.slot == slot then 1 else 0) + (comments slot inner + comments slot rest)

-- ---- reversals

-- the tree before the edit of a receipt, as it comes back from the tree now; the node is the one that the edit gave
-- out, if it gave one. What was taken out has the elision that it had then
abbrev pub Before : PlainTree → PlainReceipt → Option PlainNode → PlainTree
Before now receipt back = Back now (undone receipt back now)

-- the nodes that come in where the edit is reverted: the one that comes back, if one does
abbrev pub coming : PlainUndoing → Option PlainNode → Forest
coming (PlainUndoing.put node) back = forest (node ∷ [])
coming PlainUndoing.put_back None = Forest.nil
coming PlainUndoing.put_back (Some node) = forest (roomless_node node ∷ [])
coming (PlainUndoing.set_part part place) back = Forest.nil
coming PlainUndoing.take_out back = Forest.nil
coming (PlainUndoing.put_in side node) back = forest (node ∷ [])

-- what an edit did that is undone so
abbrev pub what_undone : PlainUndoing → What
what_undone (PlainUndoing.put node) = What.Node
what_undone PlainUndoing.put_back = What.Node
what_undone (PlainUndoing.set_part part place) = What.Part part
what_undone PlainUndoing.take_out = What.Added
what_undone (PlainUndoing.put_in side node) = What.Dropped

-- an edit in the slot is undone so at the node that is there, with the node that it gave out, if it gave one
abbrev pub IsUndoneIn : ℕ → PlainUndoing → (back : Option PlainNode) → (there : PlainNode) → Type 0
IsUndoneIn slot (PlainUndoing.put node) back there = (node.label.slot ≡ slot) × (there.label.slot ≡ slot)
IsUndoneIn slot PlainUndoing.put_back back there =
    IfSome back (λ node. node.label.slot ≡ slot) × (there.label.slot ≡ slot)
IsUndoneIn slot (PlainUndoing.set_part part place) back there = there.label.slot ≡ slot
IsUndoneIn slot PlainUndoing.take_out back there = there.label.slot ≡ slot
IsUndoneIn slot (PlainUndoing.put_in side node) back there = node.label.slot ≡ slot

-- the receipt, and the node that its edit gave out, if it gave one, fit the tree: they undo what the change says, at a
-- node that is there; there is a tree before the edit; and no comment that comes back stands in the tree
pub record CanRevert (receipt : PlainReceipt) (back : Option PlainNode) (tree : PlainTree) : Type 0 where
  pub what : receipt.change.what ≡ what_undone receipt.undoing
  pub there :
      IsSomeAnd (node_at tree.items receipt.path) (IsUndoneIn receipt.change.slot.0 receipt.undoing back)
  pub within :
      procedure_of (changed_in receipt.change.what (undone receipt back tree).items tree.items) receipt.change.slot.0
      ≡ Some receipt.change.procedure.0
  pub before : IsTree (Before tree receipt back)
  pub apart : (slot : ℕ) → comments slot tree.items + comments slot (coming receipt.undoing back) ≤ 1

-- what the reversal of an edit did, where this is what the edit did
abbrev pub reverse_of : What → What
reverse_of What.Node = What.Node
reverse_of (What.Part part) = What.Part part
reverse_of What.Added = What.Dropped
reverse_of What.Dropped = What.Added

-- the change that a reversal made, where the edit made this one
abbrev pub reverse_change : Change → Change
reverse_change change = record change { what = reverse_of change.what }

-- the node that a reversal gives out by how the edit is undone: the one that is there where the node comes that was
-- handed in; else what was handed in stays out
abbrev pub out_by : PlainUndoing → Option PlainNode → (there : Option PlainNode) → Option PlainNode
out_by (PlainUndoing.put node) back there = back
out_by PlainUndoing.put_back back there = option_and_then (λ _. there) back
out_by (PlainUndoing.set_part part place) back there = back
out_by PlainUndoing.take_out back there = back
out_by (PlainUndoing.put_in side node) back there = back

-- the node that is out once the edit of a receipt is reverted in a tree, where this one was out before
abbrev pub given_out : PlainReceipt → Option PlainNode → PlainTree → Option PlainNode
given_out receipt back tree = out_by receipt.undoing back (node_at tree.items receipt.path)

-- the edit of the receipt was reverted: its tree came back, and what is handed out reverts that again, for which
-- there is room at once; it names how the two trees differ, and keeps how many slots were drawn before the edit
pub record IsReverted (receipt : PlainReceipt) (back : Option PlainNode) (before after : PlainTree)
    (again : PlainReceipt) (out : Option PlainNode) : Type 0 where
  pub became : roomless_tree after ≡ Before (roomless_tree before) receipt back
  pub tree : IsTree after
  pub change : again.change ≡ reverse_change receipt.change
  pub differs : Differs (roomless_tree before) (roomless_tree after) again.change
  pub drawn : again.drawn ≡ receipt.drawn
  pub reverts : Before (roomless_tree after) again out ≡ roomless_tree before
  pub can_revert : CanRevert again out (roomless_tree after)
  pub room : HasRoomBack again.undoing (list_room after.spare after.items again.path)
  pub out_is : option_map roomless_node out ≡ option_map roomless_node (given_out receipt back (roomless_tree before))
  pub out_again : option_map roomless_node (given_out again out (roomless_tree after)) ≡ option_map roomless_node back
