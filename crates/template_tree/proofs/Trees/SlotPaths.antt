-- The path of a slot's node, found item after item.
use Rattle.std.specs.Prelude.{◌≡◌, refl, ℕ, zero, suc, ◌+◌, ◌<◌, ◌≤◌, ◌↔◌, List, [], ◌∷◌, length, drop, get_or, Option, Some, None, option_map, IsNone, IfNone, IfSome}
use Rattle.std.proofs.Common.{ap, sym, subst, arith, add-one, drop-cons}
use Rattle.std.proofs.Math.Bool.{false≢true}
use Rattle.std.proofs.lemmas.Option.{none-some, slice_get_read}
use Rattle.template_tree.specs.Programs.PlainTree.{Forest, PlainNode, forest, nodes_forest}
use Rattle.template_tree.specs.Programs.Slots.{count, depth, times}
use Rattle.template_tree.specs.Positions.Path.{below, node_at, slot_at}
use Rattle.template_tree.specs.Private.Weight.{forest_weight, weight}
use Rattle.template_tree.proofs.Edits.SlotEdits.{present}

-- a path below an item is one from its list on
pub path_through : (items : List PlainNode) (k : ℕ) (node : PlainNode) (path : List ℕ) (slot : ℕ) → k < length items → node ≡ get_or items k node
    → option_map (λ there. there.label.slot) (below node path) ≡ Some slot → slot_at (forest items) (k ∷ path) ≡ Some slot
path_through items k node path slot inside is e =
    rw (nodes_forest items, slice_get_read items (length items) k node refl inside is) e

-- a path inside a node is one below it
pub path_inside : (node : PlainNode) (path : List ℕ) (slot : ℕ) → slot_at node.inner path ≡ Some slot
    → option_map (λ there. there.label.slot) (below node path) ≡ Some slot
path_inside node [] slot e = absurd (none-some slot e)
path_inside node (k ∷ path) slot e = e

-- how often a slot stands in what is left of a list
pub left_times : (slot : ℕ) (items : List PlainNode) (k : ℕ) (node : PlainNode) → k < length items → node ≡ get_or items k node
    → times slot (forest (drop k items)) ≡ times slot (forest (node ∷ [])) + times slot (forest (drop (k + 1) items))
left_times slot items k node inside is = rw (add-one k, drop-cons items k node inside, ← is) (omega arith)

-- an item is no heavier than its list
pub item_light : (items : List PlainNode) (k : ℕ) (node : PlainNode) → k < length items → node ≡ get_or items k node
    → weight node ≤ forest_weight (forest items)
item_light [] k node inside is = absurd (omega (arith, inside))
item_light (x ∷ xs) zero node inside is = omega (arith, ap weight is)
item_light (x ∷ xs) (suc k) node inside is = omega (arith, item_light xs k node (omega arith) is)

-- what stands inside an item is less deep than its list
pub item_shallow : (items : List PlainNode) (k : ℕ) (node : PlainNode) → k < length items → node ≡ get_or items k node
    → depth node.inner + 1 ≤ depth (forest items)
item_shallow [] k node inside is = absurd (omega (arith, inside))
item_shallow (x ∷ xs) zero node inside is = omega (arith, ap (λ n. depth n.inner) is)
item_shallow (x ∷ xs) (suc k) node inside is = omega (arith, item_shallow xs k node (omega arith) is)

-- an item has no more nodes inside it than its list has
pub item_few : (items : List PlainNode) (k : ℕ) (node : PlainNode) → k < length items → node ≡ get_or items k node
    → count node.inner + 1 ≤ count (forest items)
item_few [] k node inside is = absurd (omega (arith, inside))
item_few (x ∷ xs) zero node inside is = omega (arith, ap (λ n. count n.inner) is)
item_few (x ∷ xs) (suc k) node inside is = omega (arith, item_few xs k node (omega arith) is)

-- a list has no more items than nodes
pub list_few : (items : List PlainNode) → length items ≤ count (forest items)
list_few [] = omega arith
list_few (x ∷ xs) = omega (arith, list_few xs)

-- the node of which the slot is
pub slot_node : (o : Option PlainNode) (slot : ℕ) → option_map (λ node. node.label.slot) o ≡ Some slot
    → (node : PlainNode) × (o ≡ Some node) × (Some node.label.slot ≡ Some slot)
slot_node None slot e = absurd (none-some slot e)
slot_node (Some node) slot e = (node, refl, e)

-- what is there, or else the number
abbrev pub taken_number : ℕ → Option ℕ → ℕ
taken_number n None = n
taken_number n (Some there) = there

-- where a path leads to the slot, it is live
pub slot_present : (items : Forest) (path : List ℕ) (slot : ℕ) → slot_at items path ≡ Some slot → 1 ≤ times slot items
slot_present items path slot e =
    let there = slot_node (node_at items path) slot e in
    subst (λ s. 1 ≤ times s items) (ap (taken_number slot) there.2) (present items path there.0 there.1)

-- no path is found exactly where the slot isn't live
pub settled : {A : Type 0} (way : A → List ℕ) (slot : ℕ) (items : Forest) (o : Option A) → IfNone o (times slot items ≡ 0)
    → IfSome o (λ a. slot_at items (way a) ≡ Some slot) → IsNone o ↔ (times slot items ≡ 0)
settled way slot items None none some = ((λ _. none), (λ _. refl))
settled way slot items (Some a) none some =
    ((λ no. absurd (false≢true (sym no))), (λ e. absurd (omega (arith, slot_present items (way a) slot some))))
