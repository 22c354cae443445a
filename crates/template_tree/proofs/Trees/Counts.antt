-- How many nodes there are.
use Rattle.std.specs.Prelude.{◌≡◌, refl, ℕ, zero, suc, ◌+◌, ◌<◌, ◌≤◌, List, [], ◌∷◌, length, drop, get_or, Some}
use Rattle.std.proofs.Common.{ap, sym, arith}
use Rattle.std.proofs.Math.Seq.{drop-cons}
use Rattle.std.proofs.Common.{add-one}
use Rattle.std.proofs.lemmas.Option.{none-some}
use Rattle.template_tree.specs.Programs.PlainTree.{Forest, PlainNode, nodes, forest}
use Rattle.template_tree.specs.Positions.Path.{node_at}
use Rattle.template_tree.specs.Private.Weight.{forest_weight, weight}
use Rattle.template_tree.proofs.Edits.SameEdits.{taken}
use Rattle.template_tree.specs.Programs.Program.{sorts, IsProgram}
use Rattle.template_tree.specs.Programs.Slots.{count}

-- a list has no more items than there are nodes
pub items_few : (items : Forest) → length (nodes items) ≤ count items
items_few Forest.nil = omega arith
items_few (Forest.cons label inner rest) = omega (arith, items_few rest)

-- each item has a sort
pub sorts_length : (items : Forest) → length (sorts items) ≡ length (nodes items)
sorts_length Forest.nil = refl
sorts_length (Forest.cons label inner rest) = ap suc (sorts_length rest)

-- a program has main at least
pub program_has_main : (items : Forest) → IsProgram items → 1 ≤ length (nodes items)
program_has_main items p =
    rw (← sorts_length items, p.listed.2, p.listed.3) (omega arith)

-- what is left of a list begins with its next item
pub left_begins : (items : List PlainNode) (k : ℕ) (node : PlainNode) → k < length items → node ≡ get_or items k node
    → count (forest (drop k items)) ≡ count node.inner + count (forest (drop (k + 1) items)) + 1
left_begins items k node within is = rw (add-one k, drop-cons items k node within, ← is) refl

-- an item is lighter than the node that it stands in
pub item_lighter : (items : List PlainNode) (k : ℕ) (node : PlainNode) → k < length items → node ≡ get_or items k node
    → weight node ≤ forest_weight (forest items)
item_lighter [] k node within is = absurd (omega arith)
item_lighter (item ∷ rest) zero node within is = rw is (omega arith)
item_lighter (item ∷ rest) (suc k) node within is = omega (arith, item_lighter rest k node (omega arith) is)

-- a node with those inside it is counted among the nodes
pub counted_below : (items : Forest) (path : List ℕ) (node : PlainNode) → node_at items path ≡ Some node
    → count node.inner + 1 ≤ count items
counted_below items [] node e = absurd (none-some node e)
counted_below Forest.nil (k ∷ path) node e = absurd (none-some node e)
counted_below (Forest.cons label inner rest) (zero ∷ []) node e =
    let same : record { label = label; inner = inner } ≡ node = ap (taken node) e in rw (sym same) (omega arith)
counted_below (Forest.cons label inner rest) (zero ∷ (j ∷ path)) node e = omega (arith, counted_below inner (j ∷ path) node e)
counted_below (Forest.cons label inner rest) (suc k ∷ path) node e = omega (arith, counted_below rest (k ∷ path) node e)
