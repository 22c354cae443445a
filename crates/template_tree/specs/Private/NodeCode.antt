-- How nodes are told apart.
use Rattle.std.specs.Prelude.{◌≡◌, ℕ, Bool, List, Option, refl}
use Rattle.std.proofs.Common.{ap, sym, subst}
use Rattle.std.specs.Coded.{Coded, code_by, coded×, coded_ℕ, coded_bool, coded_list, coded_option}
use base.Stored.{Gv, gnil, gcons}
use Rattle.plcs_grammar.specs.declared.node_kind.NodeKind.{NodeKind}
use Rattle.plcs_grammar.specs.contracts.node_kind.NodeKind as kind_row
use Rattle.plcs_grammar.specs.PlainPhrase.{PlainPhrase}
use Rattle.template_tree.specs.Programs.PlainTree.{Label, Forest, PlainNode, PlainNodes, PlainTree}
use Rattle.plcs_grammar.specs.Private.PhraseCode.{phrase_code, head, tail, IsCons}

-- a label of a node is told apart by its fields
abbrev pub label_code : Coded Label
label_code =
    code_by
    (ℕ × (NodeKind × (List (Option PlainPhrase) × (Bool × ℕ))))
    (coded× coded_ℕ
    (coded× kind_row.the_row.coded (coded× (coded_list (coded_option phrase_code)) (coded× coded_bool coded_ℕ))))
    (λ l. (l.slot, (l.kind, (l.parts, (l.elided, l.spare)))))
    (λ t. record { slot = t.0; kind = t.1.0; parts = t.1.1.0; elided = t.1.1.1.0; spare = t.1.1.1.1 })
    (λ _. refl)

-- the code of nodes in order: a tree of codes of labels
abbrev pub forest_code_of : Forest → Gv
forest_code_of Forest.nil = gnil
forest_code_of (Forest.cons label inner rest) =
    gcons (label_code.code label) (gcons (forest_code_of inner) (forest_code_of rest))

-- nodes in order with one code are the same
pub forest_code_of_inj : (x y : Forest) → forest_code_of x ≡ forest_code_of y → x ≡ y
forest_code_of_inj Forest.nil Forest.nil p = refl
forest_code_of_inj (Forest.cons l a b) (Forest.cons m c d) p =
    λ i.
    Forest.cons (label_code.inj l m (ap head p) i) (forest_code_of_inj a c (ap (λ g. head (tail g)) p) i)
    (forest_code_of_inj b d (ap (λ g. tail (tail g)) p) i)
forest_code_of_inj Forest.nil (Forest.cons m c d) p = absurd (subst IsCons (sym p) tt)
forest_code_of_inj (Forest.cons l a b) Forest.nil p = absurd (subst IsCons p tt)

-- nodes in order are told apart by their labels and what stands inside
abbrev pub forest_code : Coded Forest
forest_code = record { code = forest_code_of; inj = forest_code_of_inj }

-- a node is told apart by its label and what stands inside
abbrev pub node_code : Coded PlainNode
node_code =
    code_by (Label × Forest) (coded× label_code forest_code) (λ n. (n.label, n.inner))
    (λ t. record { label = t.0; inner = t.1 }) (λ _. refl)

-- a list of nodes is told apart by its items and its room
abbrev pub nodes_code : Coded PlainNodes
nodes_code =
    code_by (List PlainNode × ℕ) (coded× (coded_list node_code) coded_ℕ) (λ n. (n.items, n.spare))
    (λ t. record { items = t.0; spare = t.1 }) (λ _. refl)

-- a tree is told apart by its fields
abbrev pub tree_code : Coded PlainTree
tree_code =
    code_by (Forest × (ℕ × (ℕ × ℕ))) (coded× forest_code (coded× coded_ℕ (coded× coded_ℕ coded_ℕ)))
    (λ t. (t.items, (t.spare, (t.drawn, t.live))))
    (λ t. record { items = t.0; spare = t.1.0; drawn = t.1.1.0; live = t.1.1.1 }) (λ _. refl)
