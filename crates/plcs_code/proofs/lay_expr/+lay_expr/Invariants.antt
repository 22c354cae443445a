use Rattle.std.proofs.Common.{take}
use Rattle.plcs_grammar.specs.PlainPhrase.{plain_exprs}
use Rattle.plcs_code.specs.ExprCode.{exprs_instrs}
use Rattle.plcs_code.specs.Private.LaysAll.{LaysAll}
use Rattle.plcs_code.proofs.lay_expr.+lay_expr.Given as goal

abbrev pub invariant-lay_exprs-loop-expr : goal.invariant-lay_exprs-loop-expr
invariant-lay_exprs-loop-expr g l =
    LaysAll g.O.InstrOut.lays l.fn.out (g.W.Work.counts l.fn.work) (exprs_instrs (plain_exprs (take l.expr-index l.exprs))) l.out (g.W.Work.counts l.work)
