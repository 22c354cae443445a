-- How the names of nodes are told apart: they are a tree of labels, which gives them back.
use Rattle.std.specs.Prelude.{◌≡◌, ◌⊎◌, ℕ, Bool, true, List, Option, refl}
use Rattle.std.proofs.Common.{ap, inl, inr, sym, subst}
use Rattle.std.specs.Coded.{Coded, code_by, coded×, coded⊎, coded_bool, coded_list, coded_option, coded_ℕ}
use base.Stored.{Gv, gnil, gcons}
use Rattle.plcs_grammar.specs.declared.node_kind.NodeKind.{NodeKind}
use Rattle.plcs_grammar.specs.contracts.node_kind.NodeKind as kind_row
use Rattle.plcs_grammar.specs.Private.PhraseCode.{head, tail, IsCons}
use Rattle.decl_table.specs.DeclEdit.{NameMend, PlainNameEdit}
use Rattle.decl_table.specs.Names.{NameForest, NameLabel}
use Rattle.decl_table.specs.Private.PlainNameNode.{PlainNameNode, PlainNameNodes}

-- the code of names in order
abbrev pub name_list_code : Coded (List (List ℕ))
name_list_code = coded_list (coded_list coded_ℕ)

-- the code of the names in the parts of a node
abbrev pub parts_code : Coded (List (Option (List (List ℕ))))
parts_code = coded_list (coded_option name_list_code)

-- what is kept of a node is told apart by its fields
abbrev pub name_label_code : Coded NameLabel
name_label_code =
    code_by (ℕ × (NodeKind × List (Option (List (List ℕ)))))
    (coded× coded_ℕ (coded× kind_row.the_row.coded parts_code)) (λ l. (l.slot, (l.kind, l.parts)))
    (λ t. record { slot = t.0; kind = t.1.0; parts = t.1.1 }) (λ _. refl)

-- the names of nodes in order as a tree of labels
abbrev pub name_forest_code_of : NameForest → Gv
name_forest_code_of NameForest.nil = gnil
name_forest_code_of (NameForest.cons label inner rest) =
    gcons (name_label_code.code label) (gcons (name_forest_code_of inner) (name_forest_code_of rest))

-- the tree of labels of the names of nodes gives them back
pub name_forest_code_of_inj : (x y : NameForest) → name_forest_code_of x ≡ name_forest_code_of y → x ≡ y
name_forest_code_of_inj NameForest.nil NameForest.nil p = refl
name_forest_code_of_inj (NameForest.cons l a b) (NameForest.cons m c d) p =
    λ i.
    NameForest.cons (name_label_code.inj l m (ap head p) i) (name_forest_code_of_inj a c (ap (λ g. head (tail g)) p) i)
    (name_forest_code_of_inj b d (ap (λ g. tail (tail g)) p) i)
name_forest_code_of_inj NameForest.nil (NameForest.cons m c d) p = absurd (subst IsCons (sym p) tt)
name_forest_code_of_inj (NameForest.cons l a b) NameForest.nil p = absurd (subst IsCons p tt)

-- the names of nodes in order are told apart by their tree of labels
abbrev pub name_forest_code : Coded NameForest
name_forest_code = record { code = name_forest_code_of; inj = name_forest_code_of_inj }

-- a node whose names are kept is told apart by its fields, in the tree of labels
abbrev pub name_node_code : Coded PlainNameNode
name_node_code =
    code_by (NameLabel × NameForest) (coded× name_label_code name_forest_code) (λ n. (n.label, n.inner))
    (λ t. record { label = t.0; inner = t.1 }) (λ _. refl)

-- a list of nodes whose names are kept is told apart by its items and its room
abbrev pub name_nodes_code : Coded PlainNameNodes
name_nodes_code =
    code_by (List PlainNameNode × ℕ) (coded× (coded_list name_node_code) coded_ℕ) (λ l. (l.items, l.spare))
    (λ t. record { items = t.0; spare = t.1 }) (λ _. refl)

-- what may become of the names of a node, as one of four cases
abbrev pub MendCase : Type 0
MendCase = NameForest ⊎ (NameLabel ⊎ ((NameForest × ℕ) ⊎ Bool))

-- what becomes of the names of a node, as its case
abbrev pub case_of_mend : NameMend → MendCase
case_of_mend (NameMend.put node) = inl node
case_of_mend (NameMend.set_parts new) = inr (inl new)
case_of_mend (NameMend.add node room) = inr (inr (inl (node, room)))
case_of_mend NameMend.drop = inr (inr (inr true))

-- what becomes of the names of a node by its case
abbrev pub mend_of_case : MendCase → NameMend
mend_of_case (inl node) = NameMend.put node
mend_of_case (inr (inl new)) = NameMend.set_parts new
mend_of_case (inr (inr (inl pair))) = NameMend.add pair.0 pair.1
mend_of_case (inr (inr (inr b))) = NameMend.drop

-- what becomes of the names of a node is given back by its case
pub mend_back : (mend : NameMend) → mend_of_case (case_of_mend mend) ≡ mend
mend_back (NameMend.put node) = refl
mend_back (NameMend.set_parts new) = refl
mend_back (NameMend.add node room) = refl
mend_back NameMend.drop = refl

-- what becomes of the names of a node is told apart by its case
abbrev pub name_mend_code : Coded NameMend
name_mend_code =
    code_by MendCase
    (coded⊎ name_forest_code (coded⊎ name_label_code (coded⊎ (coded× name_forest_code coded_ℕ) coded_bool)))
    case_of_mend mend_of_case mend_back

-- what becomes of the names of nodes is told apart by its path and by that
abbrev pub name_edit_code : Coded PlainNameEdit
name_edit_code =
    code_by (List ℕ × NameMend) (coded× (coded_list coded_ℕ) name_mend_code) (λ edit. (edit.path, edit.mend))
    (λ t. record { path = t.0; mend = t.1 }) (λ _. refl)
