-- How layouts are told apart: each is a tree of labels, which gives it back.
use Rattle.std.specs.Prelude.{◌≡◌, ℕ, Bool, List, refl}
use Rattle.std.proofs.Common.{ap, sym, subst}
use Rattle.std.specs.Coded.{Coded, code_by, coded×, coded_ℕ, coded_bool, coded_list}
use base.Stored.{Gv, gnil, gcons}
use Rattle.plcs_grammar.specs.declared.node_kind.NodeKind.{NodeKind}
use Rattle.plcs_grammar.specs.contracts.node_kind.NodeKind as kind_row
use Rattle.plcs_grammar.specs.Private.PhraseCode.{head, tail, IsCons}
use Rattle.unparse_layout.specs.Bones.{Bone, PlainLayout}
use Rattle.unparse_layout.specs.Private.PlainNodeLayout.{PlainNodeLayout, PlainNodeLayouts}

-- what a layout keeps of a node is told apart by its fields
abbrev pub bone_code : Coded Bone
bone_code =
    code_by (ℕ × (NodeKind × (Bool × Bool)))
    (coded× coded_ℕ (coded× kind_row.the_row.coded (coded× coded_bool coded_bool)))
    (λ b. (b.slot, (b.kind, (b.elided, b.led))))
    (λ t. record { slot = t.0; kind = t.1.0; elided = t.1.1.0; led = t.1.1.1 }) (λ _. refl)

-- a layout's nodes in order as a tree of labels
abbrev pub bones_code_of : PlainLayout → Gv
bones_code_of PlainLayout.nil = gnil
bones_code_of (PlainLayout.cons bone inner rest) =
    gcons (bone_code.code bone) (gcons (bones_code_of inner) (bones_code_of rest))

-- the tree of labels of a layout's nodes gives them back
pub bones_code_of_inj : (x y : PlainLayout) → bones_code_of x ≡ bones_code_of y → x ≡ y
bones_code_of_inj PlainLayout.nil PlainLayout.nil p = refl
bones_code_of_inj (PlainLayout.cons l a b) (PlainLayout.cons m c d) p =
    λ i.
    PlainLayout.cons (bone_code.inj l m (ap head p) i) (bones_code_of_inj a c (ap (λ g. head (tail g)) p) i)
    (bones_code_of_inj b d (ap (λ g. tail (tail g)) p) i)
bones_code_of_inj PlainLayout.nil (PlainLayout.cons m c d) p = absurd (subst IsCons (sym p) tt)
bones_code_of_inj (PlainLayout.cons l a b) PlainLayout.nil p = absurd (subst IsCons p tt)

-- a layout's nodes in order are told apart by their tree of labels
abbrev pub bones_code : Coded PlainLayout
bones_code = record { code = bones_code_of; inj = bones_code_of_inj }

-- a node of a layout is told apart by its fields, in the tree of labels
abbrev pub node_layout_code : Coded PlainNodeLayout
node_layout_code =
    code_by (Bone × PlainLayout) (coded× bone_code bones_code) (λ o. (o.bone, o.inner))
    (λ t. record { bone = t.0; inner = t.1 }) (λ _. refl)

-- a list of nodes of a layout is told apart by its items and its room
abbrev pub node_layouts_code : Coded PlainNodeLayouts
node_layouts_code =
    code_by (List PlainNodeLayout × ℕ) (coded× (coded_list node_layout_code) coded_ℕ) (λ l. (l.items, l.spare))
    (λ t. record { items = t.0; spare = t.1 }) (λ _. refl)
