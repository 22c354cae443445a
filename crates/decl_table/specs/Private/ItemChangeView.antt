-- What becomes of the effective items of a procedure in memory, as plain data.
use Rattle.std.specs.Prelude.{ℕ, Bool, true, false, List, [], ◌∷◌, Option, Some, None, slice_get}
use Rattle.plcs_base.specs.Scope.{ItemMap}
use Rattle.plcs_base.specs.declared.declared.Declared.{Declared}
use Rattle.template_tree.specs.declared.change.What.{What}
use Rattle.template_tree.specs.Checks.Environment.{items_inside}
use Rattle.template_tree.specs.Checks.ProgramMaps.{items_in}
use Rattle.template_tree.specs.Programs.PlainTree.{Forest, PlainNode, nodes}
use Rattle.decl_table.specs.declared.decl_edit.ItemChange.{ItemChange}

-- what becomes of the effective items of a procedure, where the table of the edit has these items
abbrev pub plain_item_change : ItemChange → ItemMap → Option (ℕ × Option (List Declared))
plain_item_change ItemChange.Stay items = None
plain_item_change (ItemChange.Set slot) items = Some (slot.0, Some (items_in items slot.0))
plain_item_change (ItemChange.Gone slot) items = Some (slot.0, None)

-- whether an item of a tree was dropped itself, by the path inside it to what was changed
abbrev pub drops_item : What → (path : List ℕ) → Bool
drops_item What.Node path = false
drops_item (What.Part part) path = false
drops_item What.Added path = false
drops_item What.Dropped [] = true
drops_item What.Dropped (j ∷ path) = false

-- the item of a tree in which something was changed, at a path behind its own: none where it was dropped itself
abbrev pub item_left : What → (path : List ℕ) → Option PlainNode → Option PlainNode
item_left What.Node path found = found
item_left (What.Part part) path found = found
item_left What.Added path found = found
item_left What.Dropped [] found = None
item_left What.Dropped (j ∷ path) found = found

-- main or the procedure of the tree after an edit at a path, in which it was made: none where it was dropped
abbrev pub procedure_left : What → (path : List ℕ) → Forest → Option PlainNode
procedure_left what [] items = None
procedure_left what (k ∷ path) items = item_left what path (slice_get (nodes items) k)

-- what becomes of the effective items of procedures, where some may have changed: those of the procedure of the edit are
-- taken anew, or those of the slot of an item that was dropped go
abbrev pub items_become : Bool → (slot : ℕ) → Option PlainNode → Option (ℕ × Option (List Declared))
items_become false slot found = None
items_become true slot None = Some (slot, None)
items_become true slot (Some node) = Some (node.label.slot, Some (items_inside node.inner))
