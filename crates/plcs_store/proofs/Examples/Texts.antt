-- Texts joined, and stored in shorter cells.
use Rattle.std.specs.Prelude.{refl, [], ◌∷◌, true, codes, Some, None}
use Rattle.plcs_base.specs.declared.declared.ItemType.{ItemType}
use Rattle.plcs_grammar.specs.declared.operator.InfixOp.{InfixOp}
use Rattle.plcs_store.specs.declared.fault_kind.FaultKind.{FaultKind}
use Rattle.plcs_store.specs.CellAt.{kept_value}
use Rattle.plcs_store.specs.Operator.{infix_value}
use Rattle.plcs_store.specs.Outcome.{Outcome}
use Rattle.plcs_store.proofs.Examples.Row.{Rows, bit, fault, long, neg, num, ok, text}

joined : Rows
    ((infix_value InfixOp.Join (text []) (text []), ok (text []))
    ∷ (infix_value InfixOp.Join (text (codes "ab")) (text (codes "c")), ok (text (codes "abc")))
    ∷ (infix_value InfixOp.Join (text (codes "ab")) (text []), ok (text (codes "ab")))
    ∷ (infix_value InfixOp.Join (text []) (text (codes "ab ")), ok (text (codes "ab ")))
    ∷ (infix_value InfixOp.Join (long 255) (text (codes "x")), ok (long 256))
    ∷ (infix_value InfixOp.Join (long 256) (text []), ok (long 256))
    ∷ (infix_value InfixOp.Join (long 256) (text (codes "x")), fault FaultKind.StringSize)
    ∷ (infix_value InfixOp.Join (long 128) (long 128), ok (long 256))
    ∷ (infix_value InfixOp.Join (long 128) (long 129), fault FaultKind.StringSize)
    ∷ (infix_value InfixOp.Join (long 1) (num 1), Outcome.undefined) ∷ [])
joined = refl

stored : Rows
    ((kept_value (ItemType.Text 3) (text (codes "abcd")), Some (text (codes "abc")))
    ∷ (kept_value (ItemType.Text 3) (text (codes "abc")), Some (text (codes "abc")))
    ∷ (kept_value (ItemType.Text 3) (text (codes "ab")), Some (text (codes "ab")))
    ∷ (kept_value (ItemType.Text 3) (text []), Some (text []))
    ∷ (kept_value (ItemType.Text 1) (long 256), Some (long 1))
    ∷ (kept_value (ItemType.Text 256) (long 256), Some (long 256))
    ∷ (kept_value (ItemType.Text 255) (long 256), Some (long 255))
    ∷ (kept_value ItemType.Fixed (neg 2147483648), Some (neg 2147483648))
    ∷ (kept_value ItemType.Bit (bit true), Some (bit true))
    ∷ (kept_value ItemType.Bit (num 1), None)
    ∷ (kept_value ItemType.Fixed (long 1), None)
    ∷ (kept_value (ItemType.Text 3) (num 1), None) ∷ [])
stored = refl
