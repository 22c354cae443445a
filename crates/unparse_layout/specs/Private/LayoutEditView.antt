-- What edits in memory that were prepared for a layout are seen as.
use Rattle.std.specs.Prelude.{◌≡◌, ◌⊎◌, ℕ, Bool, true, false, List, refl}
use Rattle.std.proofs.Common.{inl, inr}
use Rattle.std.specs.Coded.{Coded, code_by, coded×, coded⊎, coded_bool, coded_list, coded_ℕ}
use Rattle.unparse_layout.specs.Bones.{PlainLayout}
use Rattle.unparse_layout.specs.LayoutEdit.{LayoutMend, PlainLayoutEdit, layout_mended_at}
use Rattle.unparse_layout.specs.declared.layout_edit.LayoutMend.{LayoutMend as Mend}
use Rattle.unparse_layout.specs.Private.BonesCode.{bones_code}
use Rattle.unparse_layout.specs.Private.PlainNodeLayout.{PlainNodeLayout, bones}

-- a node of a layout, alone in a list
abbrev pub lone_layout : PlainNodeLayout → PlainLayout
lone_layout node_layout = PlainLayout.cons node_layout.bone node_layout.inner PlainLayout.nil

-- the plain form of what becomes of a node of a layout in memory
abbrev pub plain_mend : Mend → LayoutMend
plain_mend Mend.Keep = LayoutMend.keep
plain_mend (Mend.Put node_layout) = LayoutMend.put (lone_layout node_layout)
plain_mend (Mend.Add node_layout room) = LayoutMend.add (lone_layout node_layout) room
plain_mend Mend.Drop = LayoutMend.drop

-- what may become of a node of a layout, as one of three cases, of which the last is two
abbrev pub MendCase : Type 0
MendCase = PlainLayout ⊎ ((PlainLayout × ℕ) ⊎ Bool)

-- what becomes of a node of a layout, as its case
abbrev pub case_of_mend : LayoutMend → MendCase
case_of_mend LayoutMend.keep = inr (inr true)
case_of_mend (LayoutMend.put node) = inl node
case_of_mend (LayoutMend.add node room) = inr (inl (node, room))
case_of_mend LayoutMend.drop = inr (inr false)

-- what becomes of a node of a layout by its case
abbrev pub mend_of_case : MendCase → LayoutMend
mend_of_case (inl node) = LayoutMend.put node
mend_of_case (inr (inl pair)) = LayoutMend.add pair.0 pair.1
mend_of_case (inr (inr true)) = LayoutMend.keep
mend_of_case (inr (inr false)) = LayoutMend.drop

-- what becomes of a node of a layout is given back by its case
pub mend_back : (mend : LayoutMend) → mend_of_case (case_of_mend mend) ≡ mend
mend_back LayoutMend.keep = refl
mend_back (LayoutMend.put node) = refl
mend_back (LayoutMend.add node room) = refl
mend_back LayoutMend.drop = refl

-- what becomes of a node of a layout is told apart by its case
abbrev pub layout_mend_code : Coded LayoutMend
layout_mend_code =
    code_by MendCase (coded⊎ bones_code (coded⊎ (coded× bones_code coded_ℕ) coded_bool))
    case_of_mend mend_of_case mend_back

-- a prepared edit of a layout is told apart by its path and what becomes of the node there
abbrev pub layout_edit_code : Coded PlainLayoutEdit
layout_edit_code =
    code_by (List ℕ × LayoutMend) (coded× (coded_list coded_ℕ) layout_mend_code) (λ edit. (edit.path, edit.mend))
    (λ t. record { path = t.0; mend = t.1 }) (λ _. refl)

-- a node of a layout after this became of the node at a path below it
abbrev pub with_mend : LayoutMend → List ℕ → PlainNodeLayout → PlainNodeLayout
with_mend mend path node_layout = record node_layout { inner = layout_mended_at mend path node_layout.inner }

-- a node of a layout with these nodes inside it
abbrev pub with_inside : List PlainNodeLayout → PlainNodeLayout → PlainNodeLayout
with_inside items node_layout = record node_layout { inner = bones items }
