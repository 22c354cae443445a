-- The edits that calls make, each one of four at the node of a slot.
use Rattle.std.specs.Prelude.{ℕ, Option}
use Rattle.plcs_grammar.specs.PlainPhrase.{PlainPhrase}
use Rattle.template_tree.specs.declared.side.Side.{Side}
use Rattle.template_tree.specs.declared.change.What.{What}
use Rattle.template_tree.specs.Programs.PlainTree.{PlainNode, PlainTree, roomless_node}
use Rattle.template_tree.specs.Edits.Edit.{Put, Add, Drop, Part}

-- an edit at a node, one of four: another node comes into its slot, a hole comes beside it, it is dropped, or a part of
-- it is set
pub data TreeEdit : Type 0 where
  put : PlainNode → TreeEdit
  add : Side → TreeEdit
  drop : TreeEdit
  set_part : ℕ → Option PlainPhrase → TreeEdit

-- the tree after an edit, whichever of the four it is, at the node in the slot
abbrev pub tree_after : TreeEdit → PlainTree → ℕ → PlainTree
tree_after (TreeEdit.put node) tree slot = Put tree slot node
tree_after (TreeEdit.add side) tree slot = Add tree slot side
tree_after TreeEdit.drop tree slot = Drop tree slot
tree_after (TreeEdit.set_part part place) tree slot = Part tree slot part place

-- which of the four an edit is, as its change says what it did
abbrev pub what_of : TreeEdit → What
what_of (TreeEdit.put node) = What.Node
what_of (TreeEdit.add side) = What.Added
what_of TreeEdit.drop = What.Dropped
what_of (TreeEdit.set_part part place) = What.Part part

-- the slot that an edit at the node in a slot changes: that slot, or the next one, in which a hole is added
abbrev pub changed_slot : TreeEdit → PlainTree → ℕ → ℕ
changed_slot (TreeEdit.put node) tree slot = slot
changed_slot (TreeEdit.add side) tree slot = tree.drawn
changed_slot TreeEdit.drop tree slot = slot
changed_slot (TreeEdit.set_part part place) tree slot = slot

-- the edit that a call makes, one of the four, without the room of the lists that it brings
abbrev pub roomless_tree_edit : TreeEdit → TreeEdit
roomless_tree_edit (TreeEdit.put node) = TreeEdit.put (roomless_node node)
roomless_tree_edit (TreeEdit.add side) = TreeEdit.add side
roomless_tree_edit TreeEdit.drop = TreeEdit.drop
roomless_tree_edit (TreeEdit.set_part part place) = TreeEdit.set_part part place
