-- Operators on whole numbers, at the ends of their range too.
use Rattle.std.specs.Prelude.{refl, [], ◌∷◌, true, codes}
use Rattle.plcs_grammar.specs.declared.operator.InfixOp.{InfixOp}
use Rattle.plcs_grammar.specs.declared.operator.PrefixOp.{PrefixOp}
use Rattle.plcs_store.specs.declared.fault_kind.FaultKind.{FaultKind}
use Rattle.plcs_store.specs.Operator.{infix_value, prefix_value}
use Rattle.plcs_store.specs.Outcome.{Outcome}
use Rattle.plcs_store.proofs.Examples.Row.{Rows, bit, fault, neg, num, ok, text}

prefixes : Rows
    ((prefix_value PrefixOp.Plus (num 0), ok (num 0))
    ∷ (prefix_value PrefixOp.Plus (num 2147483647), ok (num 2147483647))
    ∷ (prefix_value PrefixOp.Plus (neg 2147483648), ok (neg 2147483648))
    ∷ (prefix_value PrefixOp.Minus (num 0), ok (num 0))
    ∷ (prefix_value PrefixOp.Minus (num 7), ok (neg 7))
    ∷ (prefix_value PrefixOp.Minus (num 2147483647), ok (neg 2147483647))
    ∷ (prefix_value PrefixOp.Minus (neg 2147483647), ok (num 2147483647))
    ∷ (prefix_value PrefixOp.Minus (neg 2147483648), fault FaultKind.FixedOverflow)
    ∷ (prefix_value PrefixOp.Minus (bit true), Outcome.undefined)
    ∷ (prefix_value PrefixOp.Plus (text (codes "a")), Outcome.undefined) ∷ [])
prefixes = refl

sums : Rows
    ((infix_value InfixOp.Plus (num 0) (num 0), ok (num 0))
    ∷ (infix_value InfixOp.Plus (num 3) (neg 5), ok (neg 2))
    ∷ (infix_value InfixOp.Plus (num 2147483646) (num 1), ok (num 2147483647))
    ∷ (infix_value InfixOp.Plus (num 2147483647) (num 1), fault FaultKind.FixedOverflow)
    ∷ (infix_value InfixOp.Plus (num 1) (num 2147483647), fault FaultKind.FixedOverflow)
    ∷ (infix_value InfixOp.Plus (neg 2147483648) (num 2147483647), ok (neg 1))
    ∷ (infix_value InfixOp.Plus (neg 2147483647) (neg 1), ok (neg 2147483648))
    ∷ (infix_value InfixOp.Plus (neg 2147483648) (neg 1), fault FaultKind.FixedOverflow)
    ∷ (infix_value InfixOp.Plus (num 1) (bit true), Outcome.undefined)
    ∷ (infix_value InfixOp.Plus (text []) (num 1), Outcome.undefined) ∷ [])
sums = refl

differences : Rows
    ((infix_value InfixOp.Minus (num 0) (num 0), ok (num 0))
    ∷ (infix_value InfixOp.Minus (num 3) (num 5), ok (neg 2))
    ∷ (infix_value InfixOp.Minus (num 2147483647) (neg 1), fault FaultKind.FixedOverflow)
    ∷ (infix_value InfixOp.Minus (num 2147483646) (neg 1), ok (num 2147483647))
    ∷ (infix_value InfixOp.Minus (neg 2147483648) (num 1), fault FaultKind.FixedOverflow)
    ∷ (infix_value InfixOp.Minus (neg 2147483647) (num 1), ok (neg 2147483648))
    ∷ (infix_value InfixOp.Minus (num 0) (neg 2147483648), fault FaultKind.FixedOverflow)
    ∷ (infix_value InfixOp.Minus (neg 1) (neg 2147483648), ok (num 2147483647)) ∷ [])
differences = refl

products : Rows
    ((infix_value InfixOp.Times (num 0) (neg 2147483648), ok (num 0))
    ∷ (infix_value InfixOp.Times (num 6) (num 7), ok (num 42))
    ∷ (infix_value InfixOp.Times (neg 6) (num 7), ok (neg 42))
    ∷ (infix_value InfixOp.Times (neg 6) (neg 7), ok (num 42))
    ∷ (infix_value InfixOp.Times (num 46340) (num 46340), ok (num 2147395600))
    ∷ (infix_value InfixOp.Times (num 46341) (num 46341), fault FaultKind.FixedOverflow)
    ∷ (infix_value InfixOp.Times (num 65536) (num 32768), fault FaultKind.FixedOverflow)
    ∷ (infix_value InfixOp.Times (num 65536) (neg 32768), ok (neg 2147483648))
    ∷ (infix_value InfixOp.Times (num 2147483647) (num 1), ok (num 2147483647))
    ∷ (infix_value InfixOp.Times (neg 2147483648) (num 1), ok (neg 2147483648))
    ∷ (infix_value InfixOp.Times (neg 2147483648) (neg 1), fault FaultKind.FixedOverflow)
    ∷ (infix_value InfixOp.Times (neg 2147483647) (neg 1), ok (num 2147483647)) ∷ [])
products = refl

quotients : Rows
    ((infix_value InfixOp.Divide (neg 7) (num 2), ok (neg 3))
    ∷ (infix_value InfixOp.Divide (num 7) (num 2), ok (num 3))
    ∷ (infix_value InfixOp.Divide (num 7) (neg 2), ok (neg 3))
    ∷ (infix_value InfixOp.Divide (neg 7) (neg 2), ok (num 3))
    ∷ (infix_value InfixOp.Divide (neg 1) (num 2), ok (num 0))
    ∷ (infix_value InfixOp.Divide (num 1) (neg 2), ok (num 0))
    ∷ (infix_value InfixOp.Divide (num 6) (neg 2), ok (neg 3))
    ∷ (infix_value InfixOp.Divide (num 0) (num 5), ok (num 0))
    ∷ (infix_value InfixOp.Divide (num 5) (num 0), fault FaultKind.ZeroDivide)
    ∷ (infix_value InfixOp.Divide (num 0) (num 0), fault FaultKind.ZeroDivide)
    ∷ (infix_value InfixOp.Divide (neg 2147483648) (num 0), fault FaultKind.ZeroDivide)
    ∷ (infix_value InfixOp.Divide (neg 2147483648) (neg 1), fault FaultKind.FixedOverflow)
    ∷ (infix_value InfixOp.Divide (neg 2147483648) (num 1), ok (neg 2147483648))
    ∷ (infix_value InfixOp.Divide (neg 2147483647) (neg 1), ok (num 2147483647))
    ∷ (infix_value InfixOp.Divide (num 2147483647) (neg 2147483648), ok (num 0))
    ∷ (infix_value InfixOp.Divide (bit true) (num 1), Outcome.undefined) ∷ [])
quotients = refl
