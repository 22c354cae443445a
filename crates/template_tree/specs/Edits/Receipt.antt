-- Receipts of edits, and how edits are undone by them: the tree before an edit, and the room that undoing takes.
use Rattle.std.specs.Prelude.{ℕ, ◌<◌, List, [], ◌∷◌, Option, Some, None, slice_get}
use Rattle.std.specs.Option.{option_map_or}
use Rattle.plcs_grammar.specs.PlainPhrase.{PlainPhrase}
use Rattle.template_tree.specs.declared.side.Side.{Side}
use Rattle.template_tree.specs.declared.change.Change.{Change}
use Rattle.template_tree.specs.Programs.PlainTree.{Forest, PlainNode, PlainTree, nodes, roomless_node, roomless_tree}
use Rattle.template_tree.specs.Edits.Edit.{edit_at}
use Rattle.template_tree.specs.Programs.Part.{with_part}
use Rattle.template_tree.specs.Programs.Tree.{IsTree}

-- how an edit is undone at the node where it was made: the node gives way to this one, or to the one that the edit gave
-- out; a part of it is set to this; it is taken out of its list; or this hole is put in beside it
pub data PlainUndoing : Type 0 where
  put : PlainNode → PlainUndoing
  put_back : PlainUndoing
  set_part : ℕ → Option PlainPhrase → PlainUndoing
  take_out : PlainUndoing
  put_in : Side → PlainNode → PlainUndoing

-- a receipt as plain data: the change that it is of, where and how that is undone, and how many slots were drawn and
-- live before
pub record PlainReceipt : Type 0 where
  pub change : Change
  pub path : List ℕ
  pub undoing : PlainUndoing
  pub drawn : ℕ
  pub live : ℕ

-- an item with a node put in beside it, as a dropped hole comes back
abbrev pub with_beside : Side → PlainNode → PlainNode → List PlainNode
with_beside Side.Before node item = node ∷ (item ∷ [])
with_beside Side.After node item = item ∷ (node ∷ [])

-- the node that comes back where an edit is undone: the one that was given out, if one was, or else the one that is
-- there
abbrev pub node_back : Option PlainNode → PlainNode → PlainNode
node_back None item = item
node_back (Some node) item = roomless_node node

-- what stands again in place of a node once an edit is undone, without the room of lists
abbrev pub items_before : PlainUndoing → Option PlainNode → PlainNode → List PlainNode
items_before (PlainUndoing.put node) back item = node ∷ []
items_before PlainUndoing.put_back back item = node_back back item ∷ []
items_before (PlainUndoing.set_part part place) back item = with_part part place item ∷ []
items_before PlainUndoing.take_out back item = []
items_before (PlainUndoing.put_in side hole) back item = with_beside side hole item

-- the tree before the edit of a receipt, of the tree after it, both without the room of lists; the node is the one that
-- the edit gave out, if it gave one
abbrev pub undone : PlainReceipt → Option PlainNode → PlainTree → PlainTree
undone receipt back tree =
    record {
      items = edit_at (items_before receipt.undoing back) receipt.path tree.items;
      spare = tree.spare;
      drawn = receipt.drawn;
      live = receipt.live;
    }

-- how much room there is where an edit is to be undone: that of the list in which the node at a path stands, or would
-- stand; the first is the room of the outermost list
abbrev pub list_room : ℕ → Forest → List ℕ → ℕ
list_room spare items [] = 0
list_room spare items (k ∷ []) = spare
list_room spare items (k ∷ (j ∷ path)) =
    option_map_or (λ node. list_room node.label.spare node.inner (j ∷ path)) (slice_get (nodes items) k) 0

-- a list to which a hole comes back, where an edit is undone, has room for it
abbrev pub HasRoomBack : PlainUndoing → ℕ → Type 0
HasRoomBack (PlainUndoing.put_in side hole) room = 0 < room
HasRoomBack other room = Unit {0}

-- to undo the edit of the receipt no list needs room
abbrev pub NeedsNoRoom : PlainReceipt → Type 0
NeedsNoRoom receipt = (room : ℕ) → HasRoomBack receipt.undoing room

-- the receipt is of an edit that made this tree, and what it takes to undo it is there
pub record CanUndo (receipt : PlainReceipt) (back : Option PlainNode) (tree : PlainTree) : Type 0 where
  pub room : HasRoomBack receipt.undoing (list_room tree.spare tree.items receipt.path)
  pub before : IsTree (undone receipt back (roomless_tree tree))
