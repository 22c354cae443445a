-- Whether an item, or the kind of a parameter, is the same as before.
use Rattle.std.specs.Prelude.{ℕ, Bool, true, false, not, ◌==◌, ◌&&◌, ◌||◌, bytes_eq, if◌then◌else◌, List, Option, Some, None, option_and_then, slice_get}
use Rattle.std.specs.List.{list_any}
use Rattle.plcs_base.specs.declared.declared.Declared.{Declared}
use Rattle.plcs_base.specs.declared.declared.ItemType.{ItemType}
use Rattle.plcs_base.specs.declared.value.Kind.{Kind}
use Rattle.template_tree.specs.Checks.Environment.{Heading, heading_of, item_named}
use Rattle.template_tree.specs.Programs.PlainTree.{PlainNode}
use Rattle.decl_table.specs.PlainDecls.{PlainHeadings, slot_of}
use Rattle.decl_table.specs.Private.AffectedView.{kind_in}
use Rattle.decl_table.specs.declared.items.Shape.{Shape}
use Rattle.decl_table.specs.declared.reach.Reach.{Reach}

-- ---- items

-- whether the types of items are the same
abbrev pub same_types : ItemType → ItemType → Bool
same_types ItemType.Fixed ItemType.Fixed = true
same_types ItemType.Fixed ItemType.Bit = false
same_types ItemType.Fixed (ItemType.Text n) = false
same_types ItemType.Bit ItemType.Fixed = false
same_types ItemType.Bit ItemType.Bit = true
same_types ItemType.Bit (ItemType.Text n) = false
same_types (ItemType.Text n) ItemType.Fixed = false
same_types (ItemType.Text n) ItemType.Bit = false
same_types (ItemType.Text n) (ItemType.Text m) = n == m

-- whether the types and sizes that are kept of items are the same, or both are none
abbrev pub same_shapes : Option Shape → Option Shape → Bool
same_shapes None None = true
same_shapes None (Some other) = false
same_shapes (Some one) None = false
same_shapes (Some one) (Some other) = same_types one.ty other.ty && one.size == other.size

-- whether the items are the same, or both are none
abbrev pub same_item : Option Declared → Option Declared → Bool
same_item None None = true
same_item None (Some other) = false
same_item (Some one) None = false
same_item (Some one) (Some other) =
    bytes_eq one.name other.name && (same_types one.ty other.ty && one.size == other.size)

-- whether the item of the name among the one is another one than among the others, or none
abbrev pub item_differs : (items others : List Declared) → List ℕ → Bool
item_differs items others name = not (same_item (item_named name items) (item_named name others))

-- the name of the item of this number, if the others have another item of the name, or none
abbrev pub lost_at : (items others : List Declared) → (k : ℕ) → Option (List ℕ)
lost_at items others k =
    option_and_then (λ item. if item_differs items others item.name then Some item.name else None) (slice_get items k)

-- whether the name is that of an item of which the others have another one, or none
abbrev pub is_lost : (items others : List Declared) → List ℕ → Bool
is_lost items others name = list_any (λ item. bytes_eq item.name name && item_differs items others item.name) items

-- whether the name is this one, if there is one
abbrev pub is_this : Option (List ℕ) → List ℕ → Bool
is_this None name = false
is_this (Some own) name = bytes_eq own name

-- ---- kinds of parameters

-- whether the kinds are the same, or both are none
abbrev pub same_kinds : Option Kind → Option Kind → Bool
same_kinds None None = true
same_kinds None (Some other) = false
same_kinds (Some one) None = false
same_kinds (Some Kind.Fixed) (Some Kind.Fixed) = true
same_kinds (Some Kind.Fixed) (Some Kind.Bit) = false
same_kinds (Some Kind.Fixed) (Some Kind.Text) = false
same_kinds (Some Kind.Bit) (Some Kind.Fixed) = false
same_kinds (Some Kind.Bit) (Some Kind.Bit) = true
same_kinds (Some Kind.Bit) (Some Kind.Text) = false
same_kinds (Some Kind.Text) (Some Kind.Fixed) = false
same_kinds (Some Kind.Text) (Some Kind.Bit) = false
same_kinds (Some Kind.Text) (Some Kind.Text) = true

-- whether the name has another kind as a scalar by the new items
abbrev pub kind_turns : (old new : List Declared) → List ℕ → Bool
kind_turns old new name = not (same_kinds (kind_in old name) (kind_in new name))

-- whether the slot is this one, if there is one
abbrev pub is_slot : (slot : ℕ) → Option ℕ → Bool
is_slot slot None = false
is_slot slot (Some own) = own == slot

-- whether the heading in the slot is the effective one of the name, and a parameter in it has another kind by the new
-- items
abbrev pub heading_turns : PlainHeadings → (old new : List Declared) → Option Heading → (slot : ℕ) → List ℕ → Bool
heading_turns headings old new None slot name = false
heading_turns headings old new (Some heading) slot name =
    bytes_eq heading.name name
    && (is_slot slot (slot_of heading.name headings) && list_any (kind_turns old new) heading.parameters)

-- that of the procedure
abbrev pub own_turns : PlainHeadings → (old new : List Declared) → PlainNode → List ℕ → Bool
own_turns headings old new node =
    heading_turns headings old new (heading_of node.label.kind node.label.parts) node.label.slot

-- ---- a procedure in which a declaration was changed

-- whether the name is that of an item that is another one after the edit, or none, or only then one, or that of the
-- procedure's heading, if it is there and a parameter in it has another kind
abbrev pub names_turn : PlainHeadings → (old new : List Declared) → Option PlainNode → List ℕ → Bool
names_turn headings old new None name = false
names_turn headings old new (Some node) name =
    is_lost old new name || (is_lost new old name || own_turns headings old new node name)

-- that, where the edit changed a declaration
abbrev pub turns_inside : Reach → PlainHeadings → (old new : List Declared) → Option PlainNode → List ℕ → Bool
turns_inside Reach.Statement headings old new procedure name = false
turns_inside Reach.Declaration headings old new procedure name = names_turn headings old new procedure name
turns_inside Reach.Heading headings old new procedure name = false
turns_inside Reach.Procedure headings old new procedure name = false
