-- Nodes of a layout by their paths and their slots.
use Rattle.std.specs.Prelude.{ℕ, ◌+◌, max, if◌then◌else◌, ◌==◌, Bool, false, List, [], ◌∷◌, length, Option, Some, None, option_map, option_and_then, unwrap_or, slice_get}
use Rattle.unparse_layout.specs.Bones.{PlainLayout}
use Rattle.unparse_layout.specs.LayoutEdit.{layouts_inside}
use Rattle.unparse_layout.specs.Private.PlainNodeLayout.{PlainNodeLayout, node_layouts}

-- the node at the path below a node of a layout
abbrev pub layout_below : PlainNodeLayout → List ℕ → Option PlainNodeLayout
layout_below node_layout [] = Some node_layout
layout_below node_layout (k ∷ path) =
    option_and_then (λ item. layout_below item path) (slice_get (node_layouts node_layout.inner) k)

-- the node at the path in a layout
abbrev pub layout_at : PlainLayout → List ℕ → Option PlainNodeLayout
layout_at layout [] = None
layout_at layout (k ∷ path) = option_and_then (λ item. layout_below item path) (slice_get (node_layouts layout) k)

-- whether a line of the table of templates stands before the node at the path below a node of a layout, if there is one
abbrev pub led_below : PlainNodeLayout → List ℕ → Bool
led_below node_layout path = unwrap_or (option_map (λ item. item.bone.led) (layout_below node_layout path)) false

-- how many nodes the list of a layout has in which a path ends
abbrev pub count_beside : (path : List ℕ) → PlainLayout → ℕ
count_beside [] layout = 0
count_beside (k ∷ []) layout = length (layouts_inside layout)
count_beside (k ∷ (j ∷ path)) layout =
    unwrap_or (option_map (count_beside (j ∷ path)) (slice_get (layouts_inside layout) k)) 0

-- how often a slot stands in a layout
abbrev pub bone_times : ℕ → PlainLayout → ℕ
bone_times slot PlainLayout.nil = 0
bone_times slot (PlainLayout.cons bone inner rest) =
    (if bone.slot == slot then 1 else 0) + (bone_times slot inner + bone_times slot rest)

-- how deep the nodes of a layout stand
abbrev pub bone_depth : PlainLayout → ℕ
bone_depth PlainLayout.nil = 0
bone_depth (PlainLayout.cons bone inner rest) = max (bone_depth inner + 1) (bone_depth rest)
