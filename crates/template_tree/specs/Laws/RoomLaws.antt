-- The laws of room: what a tree is, what stands at a path, what is shown of it, and what edits make of it don't depend
-- on the room of its lists.
use Rattle.std.specs.Prelude.{◌≡◌, ◌↔◌, ℕ, List, option_and_then, option_map}
use Rattle.template_tree.specs.declared.change.Change.{Change}
use Rattle.template_tree.specs.Edits.Edit.{Differs}
use Rattle.template_tree.specs.Edits.Elision.{hidden_after_toggle, with_toggled_at}
use Rattle.template_tree.specs.Listings.Line.{Lines}
use Rattle.template_tree.specs.Listings.Listing.{Listing}
use Rattle.template_tree.specs.Positions.Path.{node_at, slot_at}
use Rattle.template_tree.specs.Programs.PlainTree.{Forest, PlainTree, roomless, roomless_node, roomless_tree}
use Rattle.template_tree.specs.Programs.Slots.{count, depth}
use Rattle.template_tree.specs.Positions.Stop.{IsStop, PlainStop, Stops, visible_at}
use Rattle.template_tree.specs.Programs.Tree.{IsTree}
use Rattle.template_tree.specs.Edits.TreeEdit.{TreeEdit, changed_slot, roomless_tree_edit, tree_after, what_of}

-- nodes without room are the same without room
abbrev pub RoomGoesOnce : Type 0
RoomGoesOnce = (items : Forest) → roomless (roomless items) ≡ roomless items

-- a tree is one without room, and is one with it where it is one without
abbrev pub TreesIgnoreRoom : Type 0
TreesIgnoreRoom = (tree : PlainTree) → IsTree tree ↔ IsTree (roomless_tree tree)

-- there are as many nodes without room
abbrev pub CountsIgnoreRoom : Type 0
CountsIgnoreRoom = (items : Forest) → count (roomless items) ≡ count items

-- the node at a path is that node without room
abbrev pub NodesIgnoreRoom : Type 0
NodesIgnoreRoom =
    (items : Forest) (path : List ℕ) → node_at (roomless items) path ≡ option_map roomless_node (node_at items path)

-- the slot at a path is the same without room
abbrev pub SlotsIgnoreRoom : Type 0
SlotsIgnoreRoom = (items : Forest) (path : List ℕ) → slot_at (roomless items) path ≡ slot_at items path

-- the visible node at a path is that node without room
abbrev pub VisibleNodesIgnoreRoom : Type 0
VisibleNodesIgnoreRoom =
    (items : Forest) (path : List ℕ)
    → visible_at (roomless items) path ≡ option_map roomless_node (visible_at items path)

-- the cursor may stand without room where it may stand with it
abbrev pub StandingIgnoresRoom : Type 0
StandingIgnoresRoom = (items : Forest) (stop : PlainStop) → IsStop (roomless items) stop ↔ IsStop items stop

-- the visible stops, and their lines, are those with room
abbrev pub StopsIgnoreRoom : Type 0
StopsIgnoreRoom = (items : Forest) → Stops (roomless items) ≡ Stops items

-- the lines that are shown are those with room
abbrev pub LinesIgnoreRoom : Type 0
LinesIgnoreRoom = (items : Forest) → Lines (roomless items) ≡ Lines items

-- the listing is the one with room
abbrev pub ListingIgnoresRoom : Type 0
ListingIgnoresRoom = (items : Forest) → Listing (roomless items) ≡ Listing items

-- the roomless tree with the comment at a path turned is the turned tree without room
abbrev pub TogglesIgnoreRoom : Type 0
TogglesIgnoreRoom = (tree : PlainTree) (path : List ℕ)
    → with_toggled_at path (roomless_tree tree) ≡ roomless_tree (with_toggled_at path tree)

-- whether a comment stands at a path, and is hidden once it is turned, is told as with room
abbrev pub HidingIgnoresRoom : Type 0
HidingIgnoresRoom =
    (items : Forest) (path : List ℕ)
    → option_and_then hidden_after_toggle (node_at (roomless items) path)
    ≡ option_and_then hidden_after_toggle (node_at items path)

-- nodes are as deep without room
abbrev pub DepthsIgnoreRoom : Type 0
DepthsIgnoreRoom = (items : Forest) → depth (roomless items) ≡ depth items

-- an edit at the node in a slot, and another one there of the tree without room, make the same tree but for room, and
-- do the same in the same slot
pub record IsSameAfter (one other : TreeEdit) (before : PlainTree) (slot : ℕ) : Type 0 where
  pub tree : roomless_tree (tree_after one before slot) ≡ roomless_tree (tree_after other (roomless_tree before) slot)
  pub what : what_of one ≡ what_of other
  pub slot_is : changed_slot one before slot ≡ changed_slot other (roomless_tree before) slot

-- two edits that are the same but for room are the same after trees that are the same but for room
abbrev pub EditsIgnoreRoom : Type 0
EditsIgnoreRoom =
    (one other : TreeEdit) (before : PlainTree) (slot : ℕ)
    → roomless_tree_edit one ≡ roomless_tree_edit other → IsSameAfter one other before slot

-- trees differ by a change exactly where they do without room
abbrev pub ChangesIgnoreRoom : Type 0
ChangesIgnoreRoom =
    (before after : PlainTree) (change : Change)
    → Differs before after change ↔ Differs (roomless_tree before) (roomless_tree after) change
