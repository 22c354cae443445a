-- What a prepared edit makes of a layout.
use Rattle.std.specs.Prelude.{ℕ, zero, suc, ◌<◌, ◌≤◌, List, [], ◌∷◌, length, slice_get, IsSomeAnd}
use Rattle.template_tree.specs.declared.change.Change.{Change}
use Rattle.template_tree.specs.Edits.Edit.{Differs}
use Rattle.template_tree.specs.Programs.PlainTree.{PlainTree}
use Rattle.template_tree.specs.Programs.Limit.{most_slots}
use Rattle.template_tree.specs.Programs.Tree.{IsTree}
use Rattle.unparse_layout.specs.Agreement.{IsLayoutOf}
use Rattle.unparse_layout.specs.Bones.{Bone, PlainLayout, bone_count}

-- ---- layouts before an edit

-- the layout is that of a tree from which this one differs by the change
abbrev pub IsLayoutBefore : PlainLayout → (after : PlainTree) → Change → Type 0
IsLayoutBefore layout after change =
    (before : PlainTree) × IsTree before × IsLayoutOf layout before × Differs before after change

-- ---- layouts after an edit

-- what becomes of the node of a number in a list of nodes of a layout: it stays, since a layout has no phrases;
-- another one, which stands alone in a list, comes in its place, or before it into a list with this much room; or it
-- goes
pub data LayoutMend : Type 0 where
  keep : LayoutMend
  put : PlainLayout → LayoutMend
  add : (node : PlainLayout) (room : ℕ) → LayoutMend
  drop : LayoutMend

-- an edit that was prepared for a layout: what becomes of the node at a path
pub record PlainLayoutEdit : Type 0 where
  pub path : List ℕ
  pub mend : LayoutMend

-- the nodes of the one layout, and those of the other behind them
abbrev pub join_layouts : PlainLayout → PlainLayout → PlainLayout
join_layouts PlainLayout.nil others = others
join_layouts (PlainLayout.cons bone inner rest) others = PlainLayout.cons bone inner (join_layouts rest others)

-- nodes of a layout where the one of this number gives way to what a function makes of it
abbrev pub layout_gives_way : (Bone → PlainLayout → PlainLayout) → (number : ℕ) → PlainLayout → PlainLayout
layout_gives_way change number PlainLayout.nil = PlainLayout.nil
layout_gives_way change zero (PlainLayout.cons bone inner rest) = join_layouts (change bone inner) rest
layout_gives_way change (suc number) (PlainLayout.cons bone inner rest) =
    PlainLayout.cons bone inner (layout_gives_way change number rest)

-- nodes of a layout where another one comes before the one of this number, or behind all
abbrev pub layout_added : (node : PlainLayout) → (number : ℕ) → PlainLayout → PlainLayout
layout_added node zero layout = join_layouts node layout
layout_added node (suc number) PlainLayout.nil = node
layout_added node (suc number) (PlainLayout.cons bone inner rest) =
    PlainLayout.cons bone inner (layout_added node number rest)

-- a list of nodes of a layout after this became of the node of the number
abbrev pub layout_mended : LayoutMend → (number : ℕ) → PlainLayout → PlainLayout
layout_mended LayoutMend.keep number layout = layout
layout_mended (LayoutMend.put node) number layout = layout_gives_way (λ bone inner. node) number layout
layout_mended (LayoutMend.add node room) number layout = layout_added node number layout
layout_mended LayoutMend.drop number layout = layout_gives_way (λ bone inner. PlainLayout.nil) number layout

-- a node of a layout, alone in a list, with what a function makes of the nodes inside it
abbrev pub with_layout_inside : (PlainLayout → PlainLayout) → Bone → PlainLayout → PlainLayout
with_layout_inside change bone inner = PlainLayout.cons bone (change inner) PlainLayout.nil

-- nodes of a layout after this became of the node at a path
abbrev pub layout_mended_at : LayoutMend → (path : List ℕ) → PlainLayout → PlainLayout
layout_mended_at mend [] layout = layout
layout_mended_at mend (k ∷ []) layout = layout_mended mend k layout
layout_mended_at mend (k ∷ (j ∷ path)) layout =
    layout_gives_way (with_layout_inside (layout_mended_at mend (j ∷ path))) k layout

-- the layout after a prepared edit
abbrev pub layout_after : PlainLayoutEdit → PlainLayout → PlainLayout
layout_after edit layout = layout_mended_at edit.mend edit.path layout

-- ---- putting a prepared edit in place

-- what stands inside each of the nodes of a layout, as a list
abbrev pub layouts_inside : PlainLayout → List PlainLayout
layouts_inside PlainLayout.nil = []
layouts_inside (PlainLayout.cons bone inner rest) = inner ∷ layouts_inside rest

-- this may become of the node of the number in a list of nodes of a layout: the node is there, or the list fits into
-- the room with one more
abbrev pub MayMend : LayoutMend → (number : ℕ) → PlainLayout → Type 0
MayMend LayoutMend.keep number layout = Unit {0}
MayMend (LayoutMend.put node) number layout = number < length (layouts_inside layout)
MayMend (LayoutMend.add node room) number layout =
    (number ≤ length (layouts_inside layout)) × (length (layouts_inside layout) < room)
MayMend LayoutMend.drop number layout = number < length (layouts_inside layout)

-- this may become of the node at a path of a layout
abbrev pub MayMendAt : LayoutMend → (path : List ℕ) → PlainLayout → Type 0
MayMendAt mend [] layout = Unit {0}
MayMendAt mend (k ∷ []) layout = MayMend mend k layout
MayMendAt mend (k ∷ (j ∷ path)) layout = IsSomeAnd (slice_get (layouts_inside layout) k) (MayMendAt mend (j ∷ path))

-- a prepared edit can be put in place in the layout, and leaves one that isn't too long
pub record CanPutInPlace (edit : PlainLayoutEdit) (layout : PlainLayout) : Type 0 where
  pub there : MayMendAt edit.mend edit.path layout
  pub few : bone_count (layout_after edit layout) ≤ most_slots
