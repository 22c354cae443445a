-- The line before a node inside another one.
use Rattle.std.specs.Prelude.{◌≡◌, refl, ℕ, zero, suc, ◌+◌, ◌-◌, ◌<◌, ◌≤◌, List, ◌∷◌, length, drop, Some, None, slice_get}
use Rattle.std.proofs.Common.{ap, sym, ◌∙◌, arith}
use Rattle.plcs_grammar.specs.Template.{PlainSection}
use Rattle.template_tree.specs.Programs.PlainTree.{Forest, PlainNode, nodes, forest, forest_nodes}
use Rattle.template_tree.specs.Programs.Program.{sort_of}
use Rattle.template_tree.specs.Listings.Section.{left_for, left_after, next_lead}
use Rattle.unparse_layout.specs.Private.ItemLines.{lead_at}
use Rattle.unparse_layout.proofs.MadeBones.{left_from}

-- at the beginning all nodes are left
pub lead_first : (left now : List PlainSection) (items : Forest) (k : ℕ) → now ≡ left
    → lead_at now (forest (drop 0 (nodes items))) (k - 0) ≡ lead_at left items k
lead_first left now items k same =
    ap (λ s. lead_at s (forest (nodes items)) (k - 0)) same ∙ ap (λ f. lead_at left f (k - 0)) (forest_nodes items)
    ∙ ap (lead_at left items) (omega arith)

-- one node more is passed
pub lead_next : (left here later : List PlainSection) (items : List PlainNode) (i k : ℕ) (node : PlainNode) → slice_get items i ≡ Some node
    → i < k → here ≡ left_for (sort_of node.label.kind) left → later ≡ left_after here
    → lead_at later (forest (drop (i + 1) items)) (k - (i + 1)) ≡ lead_at left (forest (drop i items)) (k - i)
lead_next left here later items i k node there before here_is later_is =
    let rest = drop (i + 1) items in
    let turn : k - i ≡ suc (k - (i + 1)) = omega (arith, before) in
    ap (λ s. lead_at s (forest rest) (k - (i + 1))) (later_is ∙ ap left_after here_is)
    ∙ sym (ap (λ n. lead_at left (forest (node ∷ rest)) n) turn)
    ∙ sym (ap (λ xs. lead_at left (forest xs) (k - i)) (left_from items i node there))

-- the node is there
pub lead_here : (left here : List PlainSection) (items : List PlainNode) (i k : ℕ) (node : PlainNode) → slice_get items k ≡ Some node
    → i ≡ k → here ≡ left_for (sort_of node.label.kind) left
    → next_lead here ≡ lead_at left (forest (drop i items)) (k - i)
lead_here left here items i k node there same here_is =
    let none : k - i ≡ 0 = omega (arith, same) in
    let found : slice_get items i ≡ Some node = ap (slice_get items) same ∙ there in
    ap next_lead here_is
    ∙ sym (ap (λ n. lead_at left (forest (node ∷ drop (i + 1) items)) n) none)
    ∙ sym (ap (λ xs. lead_at left (forest xs) (k - i)) (left_from items i node found))

-- behind all nodes no line stands before one
pub lead_past : (left : List PlainSection) (items : Forest) (k : ℕ) → length (nodes items) ≤ k → lead_at left items k ≡ None
lead_past left Forest.nil k past = refl
lead_past left (Forest.cons label inner rest) zero past = absurd (omega (arith, past))
lead_past left (Forest.cons label inner rest) (suc k) past = lead_past (left_after (left_for (sort_of label.kind) left)) rest k (omega (arith, past))
