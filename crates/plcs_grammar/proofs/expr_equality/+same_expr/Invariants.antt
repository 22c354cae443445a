use Rattle.std.proofs.Common.{◌≡◌, ◌↔◌, map, take, ◌≤◌, length}
use Rattle.plcs_grammar.specs.declared.expr.Expr.{size-Expr}
use Rattle.plcs_grammar.specs.PlainPhrase.{plain_expr}
use Rattle.plcs_grammar.proofs.expr_equality.+same_expr.Given as goal

abbrev pub invariant-same_expr-loop-left : goal.invariant-same_expr-loop-left
invariant-same_expr-loop-left l =
    ((plain_expr l.left ≡ plain_expr l.right) ↔ (plain_expr l.fn.one ≡ plain_expr l.fn.other)) × (size-Expr l.left ≤ size-Expr l.fn.one)

abbrev pub invariant-same_exprs-loop-i : goal.invariant-same_exprs-loop-i
invariant-same_exprs-loop-i l = (length l.all ≡ length l.others) × (map plain_expr (take l.i l.all) ≡ map plain_expr (take l.i l.others))
