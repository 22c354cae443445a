-- Edits as steps from one tree to the next, and trees that came from others by edits.
use Rattle.std.specs.Prelude.{◌≡◌, ℕ, zero, suc, List, Some}
use Rattle.template_tree.specs.Edits.Edit.{whole}
use Rattle.template_tree.specs.Positions.Path.{node_at}
use Rattle.template_tree.specs.Programs.PlainTree.{Forest, PlainNode, PlainTree, roomless}
use Rattle.template_tree.specs.Programs.Program.{sort_of}
use Rattle.template_tree.specs.Programs.Tree.{IsTree}
use Rattle.template_tree.specs.Edits.TreeEdit.{TreeEdit, tree_after}

-- the substance of nodes, which edit steps alone change: nothing elided, and without the room of lists
abbrev pub substance : Forest → Forest
substance items = roomless (whole items)

-- two trees are the same to edit steps: but for elision and room, with as many slots drawn
pub record IsSameTree (one other : PlainTree) : Type 0 where
  pub items : substance one.items ≡ substance other.items
  pub drawn : one.drawn ≡ other.drawn

-- an edit step at the node leaves one of its sort in its slot, if it leaves one
abbrev pub BringsSort : TreeEdit → PlainNode → Type 0
BringsSort (TreeEdit.put new) node = sort_of new.label.kind ≡ sort_of node.label.kind
BringsSort (TreeEdit.add side) node = Unit {0}
BringsSort TreeEdit.drop node = Unit {0}
BringsSort (TreeEdit.set_part part place) node = Unit {0}

-- one edit, at the node at a path, made one tree of the other, but for elision and room. The calls that edit ask for
-- more of the node, which no law of steps needs. Undoing is no such step: slots that were gone come back, which no edit
-- brings
pub record IsEditStep (before after : PlainTree) : Type 0 where
  pub edit : TreeEdit
  pub path : List ℕ
  pub node : PlainNode
  pub there : node_at before.items path ≡ Some node
  pub sort : BringsSort edit node
  pub tree_before : IsTree before
  pub tree : IsTree after
  pub became : IsSameTree after (tree_after edit before node.label.slot)

-- so many edits, one after the other, made one tree of the other
abbrev pub CameIn : ℕ → (before after : PlainTree) → Type 0
CameIn zero before after = IsSameTree before after
CameIn (suc n) before after = (between : PlainTree) × CameIn n before between × IsEditStep between after

-- edits, one after the other, made one tree of the other; none if they are the same. Between them comments may be
-- turned
abbrev pub CameByEdits : (before after : PlainTree) → Type 0
CameByEdits before after = (n : ℕ) × CameIn n before after
