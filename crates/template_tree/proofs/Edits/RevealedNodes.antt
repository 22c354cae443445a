-- Nodes with nothing elided, one after the other.
use Rattle.std.specs.Prelude.{◌≡◌, refl, ℕ, zero, suc, ◌+◌, ◌≤◌, false, List, [], ◌∷◌, length, slice_get, slice_set, Some}
use Rattle.std.proofs.Common.{ap, sym, ◌∙◌, arith, add-one}
use Rattle.std.proofs.lemmas.Option.{none-some}
use Rattle.template_tree.specs.Programs.PlainTree.{Label, Forest, PlainNode, PlainNodes, nodes, forest, forest_nodes}
use Rattle.template_tree.specs.Edits.Edit.{whole}
use Rattle.template_tree.proofs.Edits.SameEdits.{taken}

-- a list whose nodes after so many have nothing elided
abbrev pub whole_after : ℕ → List PlainNode → List PlainNode
whole_after zero items = nodes (whole (forest items))
whole_after (suc k) [] = []
whole_after (suc k) (item ∷ items) = item ∷ whole_after k items

-- a node with nothing elided
abbrev pub whole_node : PlainNode → PlainNode
whole_node node = record { label = record node.label { elided = false }; inner = whole node.inner }

one_more : (k : ℕ) (items : List PlainNode) (node : PlainNode) → slice_get items k ≡ Some node
    → whole_after (suc k) (slice_set items k (whole_node node)) ≡ whole_after k items
one_more k [] node e = absurd (none-some node e)
one_more zero (item ∷ items) node e =
    let same : item ≡ node = ap (taken node) e in rw (sym same) refl
one_more (suc k) (item ∷ items) node e = ap (λ rest. item ∷ rest) (one_more k items node e)

-- one more item has nothing elided
pub step : (k : ℕ) (items : List PlainNode) (node new : PlainNode) → slice_get items k ≡ Some node → new ≡ whole_node node
    → whole_after (k + 1) (slice_set items k new) ≡ whole_after k items
step k items node new e written = rw (add-one k, written) (one_more k items node e)

-- and none has, where none is left
pub all_done : (k : ℕ) (items : List PlainNode) → length items ≤ k → whole_after k items ≡ items
all_done zero [] past = refl
all_done zero (item ∷ items) past = absurd (omega arith)
all_done (suc k) [] past = refl
all_done (suc k) (item ∷ items) past = ap (λ rest. item ∷ rest) (all_done k items (omega (arith, past)))

-- a node that isn't elided and whose list has nothing elided
pub written : (label : Label) (old new : PlainNodes) → new ≡ record old { items = nodes (whole (forest old.items)) }
    → record { label = record label { elided = false; spare = new.spare }; inner = forest new.items }
    ≡ whole_node record { label = record label { spare = old.spare }; inner = forest old.items }
written label old new e =
    ap (λ (list : PlainNodes). let node : PlainNode = record { label = record label { elided = false; spare = list.spare }; inner = forest list.items } in node) e
    ∙ ap (λ inner. let node : PlainNode = record { label = record label { elided = false; spare = old.spare }; inner = inner } in node)
    (forest_nodes (whole (forest old.items)))

-- a list with nothing elided
pub revealed : (old new : PlainNodes) (inner : Forest) → new ≡ record old { items = nodes (whole (forest old.items)) } → forest old.items ≡ inner
    → forest new.items ≡ whole inner
revealed old new inner e is =
    ap (λ (list : PlainNodes). forest list.items) e ∙ (forest_nodes (whole (forest old.items)) ∙ ap whole is)
