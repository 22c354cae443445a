-- Copies of nodes.
use Rattle.std.specs.Prelude.{◌≡◌, false, Option, IsSomeAnd}
use Rattle.template_tree.specs.declared.tree_fault.TreeFault.{TreeFault}
use Rattle.template_tree.specs.Programs.PlainTree.{PlainNode, roomless_node}
use Rattle.template_tree.specs.Edits.Edit.{whole}
use Rattle.template_tree.specs.Edits.EditAnswer.{MayTake}

-- a node as it is copied: nothing in it is elided
abbrev pub whole_node : PlainNode → PlainNode
whole_node node = record { label = record node.label { elided = false }; inner = whole node.inner }

-- the copy is the node with nothing elided, slots and all; the room of lists is its own
abbrev pub IsCopy : PlainNode → PlainNode → Type 0
IsCopy node copy = roomless_node copy ≡ roomless_node (whole_node node)

-- a copy of the node that stands there, if one does, is refused for this: it is main or a hole, or none stands there;
-- or memory ran out
abbrev pub CopyRefused : Option PlainNode → TreeFault → Type 0
CopyRefused there TreeFault.NotHere = IsSomeAnd there MayTake → ⊥
CopyRefused there TreeFault.OutOfMemory = IsSomeAnd there MayTake
CopyRefused there other = ⊥
