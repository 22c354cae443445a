use Rattle.std.proofs.Common.{[], ◌∷◌, sym, ap}
use Rattle.plcs_grammar.specs.PlainExprCases.{expr_variable}
use Rattle.plcs_code.specs.ExprCode.{argument_instrs}
use Rattle.plcs_code.proofs.DummyArguments.{argument_other}
use Rattle.plcs_code.proofs.Laying.{lays_append, lays_behind, lays_one, lays_same}
use Rattle.plcs_code.proofs.lay_phrase.lay_argument.Goals as goal

pub returns-in-Var : goal.returns-in-Var
returns-in-Var g c =
    lays_same (sym (ap argument_instrs (expr_variable c.args.argument.now c.in-Var.variable c.in-Var.is)))
    (lays_append c.lay_index.ensures (lays_same (ap (λ i. i ∷ []) c.refer.ensures) (lays_one c.put.ensures)))

pub returns : goal.returns
returns g c =
    lays_same (sym (argument_other c.args.argument.now c.in_default.not-Var)) (lays_behind c.lay_expr.ensures c.put-2.ensures)
