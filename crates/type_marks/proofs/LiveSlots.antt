-- Slots to which paths lead.
use Rattle.std.proofs.Common.{◌≡◌, ℕ, ◌≤◌, zero, suc, true, List, [], ◌∷◌, Some, ap, arith}
use Rattle.std.specs.Prelude.{nat_eq}
use Rattle.std.proofs.lemmas.Bool.Decides.{nat_tests}
use Rattle.template_tree.specs.Positions.Path.{slot_at}
use Rattle.template_tree.specs.Programs.PlainTree.{Forest}
use Rattle.template_tree.specs.Programs.Slots.{times}
use Rattle.type_marks.proofs.CalledProcedures.{one_if}

-- a slot to which a path leads is live
pub slot_present : (items : Forest) (path : List ℕ) (slot : ℕ) → slot_at items path ≡ Some slot → 1 ≤ times slot items
slot_present items [] slot there = absurd (cc)
slot_present Forest.nil (zero ∷ path) slot there = absurd (cc)
slot_present Forest.nil (suc k ∷ path) slot there = absurd (cc)
slot_present (Forest.cons label inner rest) (zero ∷ []) slot there =
    let same : label.slot ≡ slot = cc in
    let yes : nat_eq label.slot slot ≡ true = grind (arith, nat_tests) in
    let one : one_if (nat_eq label.slot slot) ≡ 1 = ap one_if yes in
    omega (arith, one)
slot_present (Forest.cons label inner rest) (zero ∷ (j ∷ path)) slot there = omega (arith, slot_present inner (j ∷ path) slot there)
slot_present (Forest.cons label inner rest) (suc k ∷ path) slot there = omega (arith, slot_present rest (k ∷ path) slot there)
