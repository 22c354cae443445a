-- When a node may come in place of another, the limits that are asked before it does, and what its change says.
use Rattle.std.specs.Prelude.{◌≡◌, ℕ, ◌<◌, ◌≤◌, ◌&&◌, Bool, true, false, List, [], ◌∷◌, Option, Some, None, slice_get}
use Rattle.template_tree.specs.declared.change.Change.{Change}
use Rattle.template_tree.specs.declared.change.What.{What}
use Rattle.template_tree.specs.declared.tree_fault.TreeFault.{TreeFault}
use Rattle.template_tree.specs.Programs.Limit.{most_slots, most_drawn_slots}
use Rattle.template_tree.specs.Programs.PlainTree.{Forest, PlainNode, PlainTree, nodes}
use Rattle.template_tree.specs.Programs.Program.{IsSubtree, sort_of}
use Rattle.template_tree.specs.Edits.Edit.{Put, procedure_of}
use Rattle.template_tree.specs.Edits.EditAnswer.{IsWithin}
use Rattle.template_tree.specs.Edits.Elision.{is_comment}

-- the item of the program on the way of a path to a node that another one replaces: main, the procedure or the
-- procedure hole in which the change is
abbrev pub first_item : Forest → List ℕ → Option PlainNode
first_item items [] = None
first_item items (k ∷ path) = slice_get (nodes items) k

-- a node may come in place of the one that is there: it is a part of a program, of the same sort, not both are
-- comments, and the tree keeps its limits
pub record MayReplace (tree : PlainTree) (node there : PlainNode) : Type 0 where
  pub subtree : IsSubtree node
  pub sort : sort_of node.label.kind ≡ sort_of there.label.kind
  pub apart : (is_comment node.label.kind && is_comment there.label.kind) ≡ false
  pub within : IsWithin (Put tree there.label.slot node)

-- the change says what an edit did in the slot, which stands in the tree
pub record IsChangeOf (tree : PlainTree) (slot : ℕ) (what : What) (change : Change) : Type 0 where
  pub slot_is : change.slot.0 ≡ slot
  pub what_is : change.what ≡ what
  pub within : procedure_of tree.items slot ≡ Some change.procedure.0

-- the first limit that a node would meet which comes in place of another, where the depth is within its own or not,
-- and so many slots would be live and drawn
abbrev pub MeetsLimit : Bool → (live drawn : ℕ) → TreeFault → Type 0
MeetsLimit shallow live drawn TreeFault.NotHere = ⊥
MeetsLimit shallow live drawn TreeFault.TooDeep = shallow ≡ false
MeetsLimit shallow live drawn TreeFault.TooLarge = (shallow ≡ true) × (most_slots < live)
MeetsLimit shallow live drawn TreeFault.SlotsUsedUp =
    (shallow ≡ true) × (live ≤ most_slots) × (most_drawn_slots < drawn)
MeetsLimit shallow live drawn TreeFault.OutOfMemory = ⊥
