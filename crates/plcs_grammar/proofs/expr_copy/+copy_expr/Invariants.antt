use Rattle.std.proofs.Common.{◌≡◌, ◌+◌, ◌*◌, ◌≤◌, map, take}
use Rattle.plcs_grammar.specs.declared.expr.Expr.{size-Expr}
use Rattle.plcs_grammar.specs.PlainPhrase.{plain_expr}
use Rattle.plcs_grammar.specs.Private.Link.{linked}
use Rattle.plcs_grammar.proofs.expr_copy.+copy_expr.Given as goal

abbrev pub decreases-copy_expr : goal.decreases-copy_expr
decreases-copy_expr l = goal.size-copy_expr l * 4

abbrev pub decreases-copy_variable : goal.decreases-copy_variable
decreases-copy_variable l = goal.size-copy_variable l * 4 + 2

abbrev pub decreases-copy_inside : goal.decreases-copy_inside
decreases-copy_inside l = goal.size-copy_inside l * 4 + 1

abbrev pub decreases-copy_exprs : goal.decreases-copy_exprs
decreases-copy_exprs l = goal.size-copy_exprs l * 4 + 1

abbrev pub invariant-copy_expr-loop-at : goal.invariant-copy_expr-loop-at
invariant-copy_expr-loop-at l =
    (plain_expr l.fn.expr ≡ linked (plain_expr l.at) l.links.items) × (size-Expr l.at ≤ size-Expr l.fn.expr)

abbrev pub invariant-copy_exprs-loop-expr : goal.invariant-copy_exprs-loop-expr
invariant-copy_exprs-loop-expr l = map plain_expr l.copies.items ≡ map plain_expr (take l.expr-index l.exprs)
