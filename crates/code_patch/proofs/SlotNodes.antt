-- The node at a path: it alone is in its slot, and what an edit there leaves of each slot.
use Rattle.std.proofs.Common.{◌≡◌, ℕ, zero, suc, ◌+◌, ◌≤◌, Bool, cond, List, [], ◌∷◌, Some, refl, ap, sym, subst, ◌∙◌, arith, eq-eqb}
use Rattle.std.specs.Prelude.{◌==◌}
use Rattle.template_tree.specs.Edits.Edit.{edit_below, give_way}
use Rattle.template_tree.specs.Positions.Path.{node_at}
use Rattle.template_tree.specs.Programs.PlainTree.{Forest, PlainNode, forest, join}
use Rattle.template_tree.specs.Programs.Slots.{times}
use Rattle.code_patch.proofs.QuietEdits.{AtSlot, NoItem}

-- how often a slot counts at a node, by whether it is the node's
abbrev pub one_if : Bool → ℕ
one_if here = cond here 1 0

-- it counts once where it is
pub once_here : (slot n : ℕ) → slot ≡ n → one_if (slot == n) ≡ 1
once_here slot n same = ap one_if (eq-eqb slot n same)

-- the slots of two lists of nodes joined
times_join : (n : ℕ) (one other : Forest) → times n (join one other) ≡ times n one + times n other
times_join n Forest.nil other = omega arith
times_join n (Forest.cons label inner rest) other = omega (arith, times_join n rest other)

-- ---- an edit at a path

-- each slot stands as often as before, but for those of the node that gives way and those of what comes
pub times_given : (n : ℕ) (change : PlainNode → List PlainNode) (path : List ℕ) (k : ℕ) (program : Forest) (node : PlainNode)
    → node_at program (k ∷ path) ≡ Some node
    → times n (give_way (edit_below change path) k program) + times n (forest (node ∷ []))
    ≡ times n program + times n (forest (change node))
times_given n change path zero Forest.nil node there = absurd (cc)
times_given n change path (suc k) Forest.nil node there = absurd (cc)
times_given n change [] zero (Forest.cons label inner rest) node there =
    let first : PlainNode = record { label = label; inner = inner } in
    let same : first ≡ node = cc in
    let came : times n (forest (change first)) ≡ times n (forest (change node)) = ap (λ (m : PlainNode). times n (forest (change m))) same in
    let went : times n (forest (first ∷ [])) ≡ times n (forest (node ∷ [])) = ap (λ (m : PlainNode). times n (forest (m ∷ []))) same in
    omega (arith, times_join n (forest (change first)) rest, came, went)
times_given n change (j ∷ path) zero (Forest.cons label inner rest) node there =
    let inside : node_at inner (j ∷ path) ≡ Some node = there in
    omega (arith, times_given n change path j inner node inside)
times_given n change path (suc k) (Forest.cons label inner rest) node there =
    let behind : node_at rest (k ∷ path) ≡ Some node = there in
    omega (arith, times_given n change path k rest node behind)

-- the node at a path has its slot
pub slot_there : (program : Forest) (k : ℕ) (path : List ℕ) (node : PlainNode) → node_at program (k ∷ path) ≡ Some node
    → 1 ≤ times node.label.slot program
slot_there program k path node there =
    omega (arith, once_here node.label.slot node.label.slot refl, times_given node.label.slot (λ other. []) path k program node there)

-- ---- of a node in a slot

-- where the slot doesn't stand nothing is asked
pub at_slot_nowhere : (slot : ℕ) (It : PlainNode → Type 0) (nodes : Forest) → times slot nodes ≡ 0 → AtSlot slot It nodes
at_slot_nowhere slot It Forest.nil absent = tt
at_slot_nowhere slot It (Forest.cons label inner rest) absent = (
  (λ here. absurd (omega (arith, once_here label.slot slot here, absent))),
  at_slot_nowhere slot It inner (omega (arith, absent)),
  at_slot_nowhere slot It rest (omega (arith, absent)),
)

-- where it stands but once, it is asked of the node at its path
pub at_slot_path : (slot : ℕ) (It : PlainNode → Type 0) (nodes : Forest) (k : ℕ) (path : List ℕ) (node : PlainNode)
    → node_at nodes (k ∷ path) ≡ Some node → node.label.slot ≡ slot → times slot nodes ≤ 1 → It node → AtSlot slot It nodes
at_slot_path slot It Forest.nil zero path node there own once is = absurd (cc)
at_slot_path slot It Forest.nil (suc k) path node there own once is = absurd (cc)
at_slot_path slot It (Forest.cons label inner rest) zero [] node there own once is =
    let same : record { label = label; inner = inner } ≡ node = cc in
    let here : label.slot ≡ slot = ap (λ (m : PlainNode). m.label.slot) same ∙ own in
    let one = once_here label.slot slot here in (
      (λ its. subst It (sym same) is),
      at_slot_nowhere slot It inner (omega (arith, one, once)),
      at_slot_nowhere slot It rest (omega (arith, one, once)),
    )
at_slot_path slot It (Forest.cons label inner rest) zero (j ∷ path) node there own once is =
    let inside : node_at inner (j ∷ path) ≡ Some node = there in
    let live : 1 ≤ times slot inner = subst (λ (n : ℕ). 1 ≤ times n inner) own (slot_there inner j path node inside) in (
      (λ here. absurd (omega (arith, once_here label.slot slot here, live, once))),
      at_slot_path slot It inner j path node inside own (omega (arith, once)) is,
      at_slot_nowhere slot It rest (omega (arith, live, once)),
    )
at_slot_path slot It (Forest.cons label inner rest) (suc k) path node there own once is =
    let behind : node_at rest (k ∷ path) ≡ Some node = there in
    let live : 1 ≤ times slot rest = subst (λ (n : ℕ). 1 ≤ times n rest) own (slot_there rest k path node behind) in (
      (λ here. absurd (omega (arith, once_here label.slot slot here, live, once))),
      at_slot_nowhere slot It inner (omega (arith, live, once)),
      at_slot_path slot It rest k path node behind own (omega (arith, once)) is,
    )

-- no item is in the slot of a node inside one
pub no_item_absent : (slot : ℕ) (program : Forest) → times slot program ≡ 0 → NoItem slot program
no_item_absent slot Forest.nil absent = tt
no_item_absent slot (Forest.cons label inner rest) absent =
    ((λ here. absurd (omega (arith, once_here label.slot slot here, absent))), no_item_absent slot rest (omega (arith, absent)))

pub no_item : (slot : ℕ) (program : Forest) (k j : ℕ) (path : List ℕ) (node : PlainNode)
    → node_at program (k ∷ j ∷ path) ≡ Some node → node.label.slot ≡ slot → times slot program ≤ 1 → NoItem slot program
no_item slot Forest.nil zero j path node there own once = absurd (cc)
no_item slot Forest.nil (suc k) j path node there own once = absurd (cc)
no_item slot (Forest.cons label inner rest) zero j path node there own once =
    let inside : node_at inner (j ∷ path) ≡ Some node = there in
    let live : 1 ≤ times slot inner = subst (λ (n : ℕ). 1 ≤ times n inner) own (slot_there inner j path node inside) in (
      (λ here. absurd (omega (arith, once_here label.slot slot here, live, once))),
      no_item_absent slot rest (omega (arith, live, once)),
    )
no_item slot (Forest.cons label inner rest) (suc k) j path node there own once =
    let behind : node_at rest (k ∷ j ∷ path) ≡ Some node = there in
    let live : 1 ≤ times slot rest = subst (λ (n : ℕ). 1 ≤ times n rest) own (slot_there rest k (j ∷ path) node behind) in (
      (λ here. absurd (omega (arith, once_here label.slot slot here, live, once))),
      no_item slot rest k j path node behind own (omega (arith, once)),
    )
