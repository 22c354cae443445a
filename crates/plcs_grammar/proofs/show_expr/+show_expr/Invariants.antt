use Rattle.std.proofs.Common.{◌+◌, ◌*◌, max, take}
use Rattle.plcs_grammar.specs.declared.expr.Expr.{size-Expr}
use Rattle.plcs_base.specs.Put.{PutsAll}
use Rattle.plcs_grammar.specs.PlainPhrase.{plain_expr}
use Rattle.plcs_grammar.specs.Canon.{canon, joined}
use Rattle.plcs_grammar.proofs.show_expr.+show_expr.Given as goal

abbrev pub invariant-show_exprs-loop-i : goal.invariant-show_exprs-loop-i
invariant-show_exprs-loop-i g l =
    PutsAll g.O.ByteOut.puts l.fn.out (joined (λ e. canon (plain_expr e)) (take l.i l.exprs)) l.out

abbrev pub decreases-show_expr : goal.decreases-show_expr
decreases-show_expr g l = goal.size-show_expr g l * 4294967296 + 2

abbrev pub decreases-show_prefix : goal.decreases-show_prefix
decreases-show_prefix g l = goal.size-show_prefix g l * 4294967296 + 3

abbrev pub decreases-show_infix : goal.decreases-show_infix
decreases-show_infix g l = max (size-Expr l.left.now) (size-Expr l.right.now) * 4294967296 + 4294967297

abbrev pub decreases-show_builtin : goal.decreases-show_builtin
decreases-show_builtin g l = goal.size-show_builtin g l * 4294967296 + 4

abbrev pub decreases-show_paren : goal.decreases-show_paren
decreases-show_paren g l = goal.size-show_paren g l * 4294967296 + 3

abbrev pub decreases-show_operators : goal.decreases-show_operators
decreases-show_operators g l = goal.size-show_operators g l * 4294967296 + l.operators + 1

abbrev pub decreases-show_chain : goal.decreases-show_chain
decreases-show_chain g l = goal.size-show_chain g l * 4294967296 + l.operators

abbrev pub decreases-show_operator : goal.decreases-show_operator
decreases-show_operator g l = goal.size-show_operator g l * 4294967296 + 3

abbrev pub decreases-show_variable : goal.decreases-show_variable
decreases-show_variable g l = goal.size-show_variable g l * 4294967296 + 4

abbrev pub decreases-show_element : goal.decreases-show_element
decreases-show_element g l = goal.size-show_element g l * 4294967296 + 3

abbrev pub decreases-show_exprs : goal.decreases-show_exprs
decreases-show_exprs g l = goal.size-show_exprs g l * 4294967296 + 3
