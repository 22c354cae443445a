-- How kept nodes are told apart: they are a tree of labels, which gives them back.
use Rattle.std.specs.Prelude.{◌≡◌, ℕ, List, refl}
use Rattle.std.proofs.Common.{ap, sym, subst}
use Rattle.std.specs.Coded.{Coded, code_by, coded×, coded_ℕ, coded_list}
use base.Stored.{Gv, gnil, gcons}
use Rattle.plcs_grammar.specs.Private.PhraseCode.{head, tail, IsCons}
use Rattle.plcs_code.specs.OwnCode.{PlainOwnCode}
use Rattle.plcs_code.specs.Private.OwnCodeCode.{own_code_code}
use Rattle.code_patch.specs.CodeEdit.{PlainCodeTree}
use Rattle.code_patch.specs.CodeForest.{CodeForest, PlainCodeNode}
use Rattle.code_patch.specs.Private.PlainCodeNode.{PlainCodeNodes}

-- a kept node is told apart by its own code and its room
abbrev pub roomy_code : Coded (PlainOwnCode × ℕ)
roomy_code = coded× own_code_code coded_ℕ

-- kept nodes in order as a tree of labels
abbrev pub code_forest_code_of : CodeForest → Gv
code_forest_code_of CodeForest.nil = gnil
code_forest_code_of (CodeForest.cons own spare inner rest) =
    gcons (roomy_code.code (own, spare)) (gcons (code_forest_code_of inner) (code_forest_code_of rest))

-- the tree of labels of kept nodes gives them back
pub code_forest_code_of_inj : (x y : CodeForest) → code_forest_code_of x ≡ code_forest_code_of y → x ≡ y
code_forest_code_of_inj CodeForest.nil CodeForest.nil p = refl
code_forest_code_of_inj (CodeForest.cons o s a b) (CodeForest.cons q t c d) p =
    let one : ◌≡◌ {A = PlainOwnCode × ℕ} (o, s) (q, t) = roomy_code.inj (o, s) (q, t) (ap head p) in
    λ i.
    CodeForest.cons (one i).0 (one i).1 (code_forest_code_of_inj a c (ap (λ g. head (tail g)) p) i)
    (code_forest_code_of_inj b d (ap (λ g. tail (tail g)) p) i)
code_forest_code_of_inj CodeForest.nil (CodeForest.cons q t c d) p = absurd (subst IsCons (sym p) tt)
code_forest_code_of_inj (CodeForest.cons o s a b) CodeForest.nil p = absurd (subst IsCons p tt)

-- kept nodes in order are told apart by their tree of labels
abbrev pub code_forest_code : Coded CodeForest
code_forest_code = record { code = code_forest_code_of; inj = code_forest_code_of_inj }

-- a kept node is told apart by its fields, in the tree of labels
abbrev pub code_node_code : Coded PlainCodeNode
code_node_code =
    code_by (PlainOwnCode × (ℕ × CodeForest)) (coded× own_code_code (coded× coded_ℕ code_forest_code))
    (λ n. (n.own, (n.spare, n.inner))) (λ t. record { own = t.0; spare = t.1.0; inner = t.1.1 }) (λ _. refl)

-- a list of kept nodes is told apart by its items and its room
abbrev pub code_nodes_code : Coded PlainCodeNodes
code_nodes_code =
    code_by (List PlainCodeNode × ℕ) (coded× (coded_list code_node_code) coded_ℕ) (λ l. (l.items, l.spare))
    (λ t. record { items = t.0; spare = t.1 }) (λ _. refl)

-- a code tree is told apart by its items and its room
abbrev pub code_tree_code : Coded PlainCodeTree
code_tree_code =
    code_by (CodeForest × ℕ) (coded× code_forest_code coded_ℕ) (λ t. (t.items, t.spare))
    (λ t. record { items = t.0; spare = t.1 }) (λ _. refl)
