use Rattle.std.proofs.Common.{◌≡◌, ◌≤◌}
use Rattle.plcs_grammar.specs.declared.expr.Expr.{size-Expr}
use Rattle.plcs_grammar.specs.PlainPhrase.{plain_expr}
use Rattle.plcs_grammar.specs.Private.Chain.{leftmost}
use Rattle.plcs_grammar.proofs.chain.leftmost.Given as goal

abbrev pub invariant-loop-left_over : goal.invariant-loop-left_over
invariant-loop-left_over l =
    (leftmost (plain_expr l.at) l.left_over ≡ leftmost (plain_expr l.fn.expr) l.fn.times) × (size-Expr l.at ≤ size-Expr l.fn.expr)

abbrev pub decreases-loop-left_over : goal.decreases-loop-left_over
decreases-loop-left_over l = l.left_over
