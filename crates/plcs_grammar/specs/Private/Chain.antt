-- A chain of operators, seen along its left operands.
use Rattle.std.specs.Prelude.{ℕ, zero, suc, List, [], ◌++◌}
use Rattle.plcs_grammar.specs.declared.operator.InfixOp.{InfixOp}
use Rattle.plcs_grammar.specs.PlainPhrase.{PlainExpr}
use Rattle.plcs_grammar.specs.Sign.{infix_sign}
use Rattle.plcs_grammar.specs.Canon.{behind_sign, canon}

-- the expression that is reached by going to the left operand so many times, or as far as there is one
abbrev pub leftmost : PlainExpr → ℕ → PlainExpr
leftmost (PlainExpr.number z) times = PlainExpr.number z
leftmost (PlainExpr.text value) times = PlainExpr.text value
leftmost (PlainExpr.bit value) times = PlainExpr.bit value
leftmost (PlainExpr.variable reference) times = PlainExpr.variable reference
leftmost (PlainExpr.unary op a) times = PlainExpr.unary op a
leftmost (PlainExpr.binary op a b) zero = PlainExpr.binary op a b
leftmost (PlainExpr.binary op a b) (suc times) = leftmost a times
leftmost (PlainExpr.builtin function arguments) times = PlainExpr.builtin function arguments
leftmost (PlainExpr.parenthesized a) times = PlainExpr.parenthesized a

-- along a chain, the text that each of its operators adds: its sign with a blank on each side, and its right operand
abbrev pub operator_text : InfixOp → PlainExpr → List ℕ
operator_text op b = behind_sign (infix_sign op) (canon b)

-- along a chain, the canonical text of the last so many operators, each with its right operand: what stands behind
-- `leftmost`
abbrev pub chain_text : PlainExpr → ℕ → List ℕ
chain_text (PlainExpr.number z) operators = []
chain_text (PlainExpr.text value) operators = []
chain_text (PlainExpr.bit value) operators = []
chain_text (PlainExpr.variable reference) operators = []
chain_text (PlainExpr.unary op a) operators = []
chain_text (PlainExpr.binary op a b) zero = []
chain_text (PlainExpr.binary op a b) (suc operators) = chain_text a operators ++ operator_text op b
chain_text (PlainExpr.builtin function arguments) operators = []
chain_text (PlainExpr.parenthesized a) operators = []
