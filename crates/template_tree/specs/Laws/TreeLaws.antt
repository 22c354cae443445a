-- The laws of trees: a tree stays one under edits within the limits, and these can be undone and reverted.
use Rattle.std.specs.Prelude.{◌≡◌, ℕ, ◌+◌, ◌≤◌, List, Option, Some}
use Rattle.plcs_grammar.specs.PlainPhrase.{PlainPhrase}
use Rattle.template_tree.specs.declared.side.Side.{Side}
use Rattle.template_tree.specs.Edits.EditAnswer.{IsListItem, IsSpareHole}
use Rattle.template_tree.specs.Programs.Limit.{deepest_path, most_slots, most_drawn_slots}
use Rattle.template_tree.specs.Programs.Program.{IsSubtree, sort_of}
use Rattle.template_tree.specs.Programs.PlainTree.{Forest, PlainNode, PlainTree, roomless_tree}
use Rattle.template_tree.specs.Programs.Part.{IsPhrasePlace, Takes, part_category, with_part}
use Rattle.template_tree.specs.Programs.Slots.{count, depth, times}
use Rattle.template_tree.specs.Programs.Tree.{IsTree}
use Rattle.template_tree.specs.Edits.Lend.{with_node}
use Rattle.template_tree.specs.Positions.Path.{node_at}
use Rattle.template_tree.specs.Edits.Receipt.{PlainReceipt, CanUndo, HasRoomBack, list_room, undone}
use Rattle.template_tree.specs.Edits.Reversal.{Before, CanRevert, with_elision_of}
use Rattle.template_tree.specs.Edits.Edit.{Add, Drop, Part, Put, edit_at, edit_slot, whole}
use Rattle.template_tree.specs.Edits.Elision.{with_toggled_at}

-- an edit by slot is the edit at the path of the node that stands there, where the slot stands but once
abbrev pub SlotEditIsPathEdit : Type 0
SlotEditIsPathEdit =
    (change : PlainNode → List PlainNode) (items : Forest) (path : List ℕ) (node : PlainNode)
    → times node.label.slot items ≤ 1 → node_at items path ≡ Some node
    → edit_slot node.label.slot change items ≡ edit_at change path items

-- a tree stays one where the node at a path comes back with this in a part that takes it
abbrev pub SetPartKeepsTree : Type 0
SetPartKeepsTree =
    (tree : PlainTree) (path : List ℕ) (node : PlainNode) (part : ℕ) (place : Option PlainPhrase)
    → IsTree tree → node_at tree.items path ≡ Some node
    → Takes (part_category node.label.kind part) place → IsPhrasePlace place
    → IsTree (with_node tree path (with_part part place node))

-- a tree is one with as many live slots where a part of the node in a slot is set to what it takes
abbrev pub PartKeepsTree : Type 0
PartKeepsTree =
    (tree : PlainTree) (path : List ℕ) (node : PlainNode) (part : ℕ) (place : Option PlainPhrase)
    → IsTree tree → node_at tree.items path ≡ Some node
    → Takes (part_category node.label.kind part) place → IsPhrasePlace place
    → IsTree (Part tree node.label.slot part place) × ((Part tree node.label.slot part place).live ≡ tree.live)

-- a tree is one where a node of the same sort comes into a slot, as far as the limits allow it; the inner nodes that
-- come are counted in place of those that go
abbrev pub PutKeepsTree : Type 0
PutKeepsTree =
    (tree : PlainTree) (path : List ℕ) (node new : PlainNode)
    → IsTree tree → node_at tree.items path ≡ Some node
    → IsSubtree new → sort_of new.label.kind ≡ sort_of node.label.kind
    → depth (Put tree node.label.slot new).items ≤ deepest_path
    → (Put tree node.label.slot new).live ≤ most_slots
    → (Put tree node.label.slot new).drawn ≤ most_drawn_slots
    → IsTree (Put tree node.label.slot new)
    × ((Put tree node.label.slot new).live + count node.inner ≡ tree.live + count new.inner)

-- a tree is one where a hole comes beside an item of a list, as far as the limits allow it; it is as deep as before
abbrev pub AddKeepsTree : Type 0
AddKeepsTree =
    (tree : PlainTree) (path : List ℕ) (node : PlainNode) (side : Side)
    → IsTree tree → node_at tree.items path ≡ Some node → IsListItem tree.items path node
    → (Add tree node.label.slot side).live ≤ most_slots
    → (Add tree node.label.slot side).drawn ≤ most_drawn_slots
    → IsTree (Add tree node.label.slot side)
    × ((Add tree node.label.slot side).live ≡ tree.live + 1)
    × (depth (Add tree node.label.slot side).items ≡ depth tree.items)

-- a tree is one where a hole leaves a list of two or more
abbrev pub DropKeepsTree : Type 0
DropKeepsTree =
    (tree : PlainTree) (path : List ℕ) (node : PlainNode)
    → IsTree tree → node_at tree.items path ≡ Some node → IsSpareHole tree.items path node
    → IsTree (Drop tree node.label.slot)
    × ((Drop tree node.label.slot).live + 1 ≡ tree.live)

-- an edit can be undone in each tree that is, without the room of lists, the one after it, where a list has the room
-- that it takes
abbrev pub UndoStaysPossible : Type 0
UndoStaysPossible =
    (receipt : PlainReceipt) (back : Option PlainNode) (one other : PlainTree)
    → roomless_tree one ≡ roomless_tree other
    → HasRoomBack receipt.undoing (list_room other.spare other.items receipt.path)
    → CanUndo receipt back one → CanUndo receipt back other

-- the tree before an edit whose receipt fits a tree is the one to which that is undone, with as many slots drawn as
-- are now: outside of what comes back it is the tree itself, elision and all
abbrev pub RevertsToUndone : Type 0
RevertsToUndone =
    (receipt : PlainReceipt) (back : Option PlainNode) (tree : PlainTree) → IsTree tree → CanRevert receipt back tree
    → Before tree receipt back ≡ record (undone receipt back tree) { drawn = tree.drawn }

-- of trees that are the same but for elision: a receipt that fits the one fits the other, and both have the same tree
-- before the edit but for elision, where those comments are shown that stand now too
pub record RevertAlike (receipt : PlainReceipt) (back : Option PlainNode) (one other : PlainTree) : Type 0 where
  pub fits : CanRevert receipt back other
  pub before : whole (Before one receipt back).items ≡ whole (Before other receipt back).items
  pub shown :
      with_elision_of (whole one.items) (undone receipt back one).items
      ≡ with_elision_of (whole other.items) (undone receipt back other).items

-- whether a receipt fits a tree, and what it gives back, doesn't depend on what is elided in the tree
abbrev pub RevertsIgnoreElision : Type 0
RevertsIgnoreElision =
    (receipt : PlainReceipt) (back : Option PlainNode) (one other : PlainTree) → IsTree one → IsTree other
    → whole one.items ≡ whole other.items → one.drawn ≡ other.drawn → CanRevert receipt back one
    → RevertAlike receipt back one other

-- a tree with a comment turned is the same but for elision
abbrev pub TurnsAreElision : Type 0
TurnsAreElision = (tree : PlainTree) (path : List ℕ) → IsTree tree
    → IsTree (with_toggled_at path tree) × (whole (with_toggled_at path tree).items ≡ whole tree.items)
