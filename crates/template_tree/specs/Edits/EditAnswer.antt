-- What an edit answers: its receipt, or why it is refused; and at which nodes each edit may be made.
use Rattle.std.specs.Prelude.{◌≡◌, ℕ, ◌<◌, ◌≤◌, List, Option, Some, None, IsSome, IsSomeAnd, IsTrue, ◌⊎◌, unwrap_or}
use Rattle.plcs_grammar.specs.declared.category.Category.{Category}
use Rattle.plcs_grammar.specs.declared.node_kind.NodeKind.{NodeKind}
use Rattle.plcs_grammar.specs.PlainPhrase.{PlainPhrase, category_of}
use Rattle.template_tree.specs.declared.tree_fault.TreeFault.{TreeFault}
use Rattle.template_tree.specs.Programs.Limit.{deepest_path, most_slots, most_drawn_slots}
use Rattle.template_tree.specs.Programs.PlainTree.{Forest, PlainNode, PlainTree, roomless_tree}
use Rattle.template_tree.specs.Programs.Slots.{depth}
use Rattle.template_tree.specs.Programs.Tree.{IsTree}
use Rattle.plcs_grammar.specs.Template.{program_sections}
use Rattle.template_tree.specs.Programs.Program.{sort_of, sorts}
use Rattle.template_tree.specs.Edits.ListItem.{is_listed, sections_at, siblings_at, how_many}
use Rattle.template_tree.specs.Programs.Part.{Takes, part_category}
use Rattle.template_tree.specs.Positions.Stop.{part_stops}
use Rattle.template_tree.specs.Edits.Edit.{Differs}
use Rattle.template_tree.specs.Edits.Hole.{hole_of, hole_left, is_hole, lone}
use Rattle.template_tree.specs.Edits.TreeEdit.{TreeEdit, tree_after, what_of, changed_slot}
use Rattle.template_tree.specs.Edits.Receipt.{PlainReceipt, undone, CanUndo}
use Rattle.template_tree.specs.Edits.Reversal.{CanRevert}

-- an edit at the node in the slot that was made is answered so: it made one tree of the other, and the receipt names
-- it, undoes it, and reverts it, with the node that the edit gave out, if it gave one. No fewer slots are drawn than
-- before
pub record IsEdit (edit : TreeEdit) (slot : ℕ) (before after : PlainTree) (receipt : PlainReceipt)
    (back : Option PlainNode) : Type 0 where
  pub became : roomless_tree after ≡ roomless_tree (tree_after edit before slot)
  pub tree : IsTree after
  pub what : receipt.change.what ≡ what_of edit
  pub slot_is : receipt.change.slot.0 ≡ changed_slot edit before slot
  pub differs : Differs before after receipt.change
  pub undoes : undone receipt back (roomless_tree after) ≡ roomless_tree before
  pub can_undo : CanUndo receipt back after
  pub can_revert : CanRevert receipt back (roomless_tree after)
  pub drawn : before.drawn ≤ after.drawn

-- the slot of the node at which an edit may be made, if there is one, or else 0
abbrev pub slot_in : Option PlainNode → ℕ
slot_in None = 0
slot_in (Some node) = node.label.slot

-- the answer to an edit that was made: it was at a node of which this holds, and gave nothing out
pub record Edits (edit : TreeEdit) (there : Option PlainNode) (Here : PlainNode → Type 0) (before after : PlainTree)
    (receipt : PlainReceipt) : Type 0 where
  pub here : IsSomeAnd there Here
  pub is_edit : IsEdit edit (slot_in there) before after receipt None

-- the tree that an edit would make is within the limits of depth, live slots and drawn slots
pub record IsWithin (tree : PlainTree) : Type 0 where
  pub shallow : depth tree.items ≤ deepest_path
  pub few : tree.live ≤ most_slots
  pub drawn_few : tree.drawn ≤ most_drawn_slots

-- the tree that an edit would make is over a limit, and over none that is asked for before it; where memory is wanting,
-- it is over none
abbrev pub IsOverTreeLimit : TreeFault → PlainTree → Type 0
IsOverTreeLimit TreeFault.NotHere tree = ⊥
IsOverTreeLimit TreeFault.TooDeep tree = deepest_path < depth tree.items
IsOverTreeLimit TreeFault.TooLarge tree = (depth tree.items ≤ deepest_path) × (most_slots < tree.live)
IsOverTreeLimit TreeFault.SlotsUsedUp tree =
    (depth tree.items ≤ deepest_path) × (tree.live ≤ most_slots) × (most_drawn_slots < tree.drawn)
IsOverTreeLimit TreeFault.OutOfMemory tree = IsWithin tree

-- an edit is refused at a node, if there is one, of which this has to hold: it doesn't, or the tree after the edit
-- would be over a limit
abbrev pub Refuses : TreeEdit → Option PlainNode → (PlainNode → Type 0) → PlainTree → TreeFault → Type 0
Refuses edit there Here before TreeFault.NotHere = IsSomeAnd there Here → ⊥
Refuses edit there Here before fault =
    IsSomeAnd there (λ node. Here node × IsOverTreeLimit fault (tree_after edit before node.label.slot))

-- a node of the kind may be filled in or inserted at this node: it is a hole where nodes of the kind stand
abbrev pub IsHoleFor : NodeKind → PlainNode → Type 0
IsHoleFor kind node = hole_of (sort_of kind) ≡ Some node.label.kind

-- the assignment may be filled in at this node: it is a statement hole or an assignment, and the phrase is one
abbrev pub TakesAssignment : PlainPhrase → PlainNode → Type 0
TakesAssignment phrase node =
    ((node.label.kind ≡ NodeKind.StatementHole) ⊎ (node.label.kind ≡ NodeKind.Assign))
    × (category_of phrase ≡ Category.Assignment)

-- a phrase may be set, or removed, at this node: the part is one of its stops, and takes this
abbrev pub TakesAtStop : ℕ → Option PlainPhrase → PlainNode → Type 0
TakesAtStop part place node = (part < part_stops node.label.kind) × Takes (part_category node.label.kind part) place

-- this node may be taken out: it is neither main nor a hole
abbrev pub MayTake : PlainNode → Type 0
MayTake node = IsSome (hole_left node.label.kind)

-- what the answer to an edit that takes out a node of the kind says of the tree: the node that then stands there, a
-- hole
abbrev pub hole_in_place : NodeKind → PlainNode
hole_in_place kind = lone 0 (unwrap_or (hole_left kind) kind)

-- the answer where the node was taken out of the tree: the edit left a hole in its slot
pub record TakesOut (node : PlainNode) (before after : PlainTree) (receipt : PlainReceipt) : Type 0 where
  pub may_take : MayTake node
  pub is_edit : IsEdit (TreeEdit.put (hole_in_place node.label.kind)) node.label.slot before after receipt (Some node)

-- the edit that adds a hole may be made beside this node: the node at the path is an item of a list
abbrev pub IsListItem : Forest → List ℕ → PlainNode → Type 0
IsListItem items path node = IsTrue (is_listed (sort_of node.label.kind) (sections_at program_sections items path))

-- this node may be dropped: the node at the path is a hole in a list of two or more
pub record IsSpareHole (items : Forest) (path : List ℕ) (node : PlainNode) : Type 0 where
  pub hole : IsTrue (is_hole node.label.kind)
  pub listed : IsListItem items path node
  pub others : 2 ≤ how_many (sort_of node.label.kind) (sorts (siblings_at items path))
