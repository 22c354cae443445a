-- Layouts after a node came in place of another, into a list or out of it, or its elision was set.
use Rattle.std.specs.Prelude.{ℕ, ◌+◌, ◌-◌, Bool, List, [], ◌∷◌, option_map, unwrap_or, slice_get, slice_set}
use Rattle.std.specs.List.{insert, remove}
use Rattle.unparse_layout.specs.Private.PlainNodeLayout.{PlainNodeLayout, PlainNodeLayouts, bones, node_layouts}

-- a list of nodes of a layout with another node in this place
abbrev pub with_node_layout_set : PlainNodeLayouts → ℕ → PlainNodeLayout → PlainNodeLayouts
with_node_layout_set list k item = record list { items = slice_set list.items k item }

-- a list of nodes of a layout with another one before the one of this number, in room that was there
abbrev pub with_node_layout_inserted : PlainNodeLayouts → ℕ → PlainNodeLayout → PlainNodeLayouts
with_node_layout_inserted list k item = record { items = insert list.items k item; spare = list.spare - 1 }

-- a list of nodes of a layout without the one of this number, whose room is left
abbrev pub with_node_layout_removed : PlainNodeLayouts → ℕ → PlainNodeLayouts
with_node_layout_removed list k = record { items = remove list.items k; spare = list.spare + 1 }

-- a node of a layout after the elision of the node at the path below it was set
abbrev pub with_elision : List ℕ → Bool → PlainNodeLayout → PlainNodeLayout
with_elision [] elided node_layout = record node_layout { bone = record node_layout.bone { elided = elided } }
with_elision (k ∷ path) elided node_layout =
    unwrap_or
    (option_map
    (λ item.
    record node_layout { inner = bones (slice_set (node_layouts node_layout.inner) k (with_elision path elided item)) })
    (slice_get (node_layouts node_layout.inner) k))
    node_layout
