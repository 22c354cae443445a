-- Operators on truth values.
use Rattle.std.specs.Prelude.{refl, [], ◌∷◌, true, false}
use Rattle.plcs_grammar.specs.declared.operator.InfixOp.{InfixOp}
use Rattle.plcs_grammar.specs.declared.operator.PrefixOp.{PrefixOp}
use Rattle.plcs_store.specs.Operator.{infix_value, prefix_value}
use Rattle.plcs_store.specs.Outcome.{Outcome}
use Rattle.plcs_store.proofs.Examples.Row.{Rows, bit, num, ok}

negations : Rows
    ((prefix_value PrefixOp.Not (bit true), ok (bit false))
    ∷ (prefix_value PrefixOp.Not (bit false), ok (bit true))
    ∷ (prefix_value PrefixOp.Not (num 1), Outcome.undefined) ∷ [])
negations = refl

junctions : Rows
    ((infix_value InfixOp.And (bit false) (bit false), ok (bit false))
    ∷ (infix_value InfixOp.And (bit false) (bit true), ok (bit false))
    ∷ (infix_value InfixOp.And (bit true) (bit false), ok (bit false))
    ∷ (infix_value InfixOp.And (bit true) (bit true), ok (bit true))
    ∷ (infix_value InfixOp.Or (bit false) (bit false), ok (bit false))
    ∷ (infix_value InfixOp.Or (bit false) (bit true), ok (bit true))
    ∷ (infix_value InfixOp.Or (bit true) (bit false), ok (bit true))
    ∷ (infix_value InfixOp.Or (bit true) (bit true), ok (bit true))
    ∷ (infix_value InfixOp.Or (num 1) (bit true), Outcome.undefined)
    ∷ (infix_value InfixOp.And (bit true) (num 1), Outcome.undefined) ∷ [])
junctions = refl
