use Rattle.std.proofs.Common.{◌≤◌}
use Rattle.plcs_grammar.specs.declared.expr.Expr.{size-Expr}
use Rattle.plcs_grammar.proofs.expr.Expr.+expr.Given as goal

-- what is left of the chain is no deeper than the whole
abbrev pub invariant-loop-self : goal.invariant-loop-self
invariant-loop-self l = size-Expr l.self ≤ size-Expr l.initial.self
