-- The code of an expression is that of its operands from left to right and then one instruction, and so it is laid:
-- what the calls for the operands lay, one behind the other, and what is put behind that.
use Rattle.std.proofs.Common.{◌≡◌, [], ◌∷◌, length, sym, ap, ◌∙◌, rules}
use Rattle.std.proofs.lemmas.Int.{to_z-of_z}
use mir.Syntax.{w32}
use mir.Val.{SFits, of_z, to_z}
use Rattle.plcs_grammar.specs.PlainPhrase.{plain_exprs}
use Rattle.plcs_grammar.specs.PlainExprCases.{expr_bit, expr_builtin, expr_infix, expr_number, expr_prefix, expr_text, expr_variable, reference_simple}
use Rattle.plcs_code.specs.ExprCode.{exprs_instrs, index_instrs}
use Rattle.plcs_code.specs.PlainInstr.{PlainInstr}
use Rattle.plcs_code.specs.Private.LaysAll.{lays_nothing}
use Rattle.plcs_code.proofs.LaidLists.{counted, exprs_next, laid_expr, laid_plain}
use Rattle.plcs_code.proofs.Laying.{lays_append, lays_behind, lays_one, lays_same}
use Rattle.plcs_code.proofs.lay_expr.+lay_expr.Goals as goal

pub lay_expr-returns-in-Number : goal.lay_expr-returns-in-Number
lay_expr-returns-in-Number g t c =
    let fits : SFits w32 c.in-Number.number = search rules in
    let same : to_z w32 (of_z w32 c.in-Number.number) ≡ c.in-Number.number = simp to_z-of_z in
    laid_plain _ _ (expr_number c.args.expr.now c.in-Number.number c.in-Number.is)
    (lays_same (ap (λ z. PlainInstr.push_number z ∷ []) same) (lays_one c.put.ensures))

pub lay_expr-returns-in-Text : goal.lay_expr-returns-in-Text
lay_expr-returns-in-Text g t c =
    laid_plain _ _ (expr_text c.args.expr.now c.in-Text.text c.in-Text.is)
    (lays_same (ap (λ x. PlainInstr.push_text x ∷ []) c.deref.ensures) (lays_one c.put_text.ensures))

pub lay_expr-returns-in-Bit : goal.lay_expr-returns-in-Bit
lay_expr-returns-in-Bit g t c =
    laid_plain _ _ (expr_bit c.args.expr.now c.in-Bit.bit c.in-Bit.is) (lays_one c.put-in-Bit.ensures)

pub lay_expr-returns-in-Var : goal.lay_expr-returns-in-Var
lay_expr-returns-in-Var g t c =
    laid_plain _ _ (expr_variable c.args.expr.now c.in-Var.variable c.in-Var.is)
    (lays_append c.lay_index.ensures (lays_same (ap (λ i. i ∷ []) c.load.ensures) (lays_one c.put-in-Var.ensures)))

pub lay_expr-returns-in-Prefix : goal.lay_expr-returns-in-Prefix
lay_expr-returns-in-Prefix g t c =
    laid_plain _ _ (expr_prefix c.args.expr.now c.in-Prefix.op c.in-Prefix.operand c.in-Prefix.is)
    (lays_behind (laid_expr _ _ c.deref-in-Prefix.ensures c.lay_expr.ensures) c.put-in-Prefix.ensures)

pub lay_expr-returns-in-Infix : goal.lay_expr-returns-in-Infix
lay_expr-returns-in-Infix g t c =
    laid_plain _ _ (expr_infix c.args.expr.now c.in-Infix.op c.in-Infix.left c.in-Infix.right c.in-Infix.is)
    (lays_append (laid_expr _ _ c.deref-in-Infix.ensures c.lay_expr-in-Infix.ensures)
    (lays_behind (laid_expr _ _ c.deref-in-Infix-2.ensures c.lay_expr-in-Infix-2.ensures) c.put-in-Infix.ensures))

pub lay_expr-returns-in-Builtin : goal.lay_expr-returns-in-Builtin
lay_expr-returns-in-Builtin g t c =
    let arguments = c.in-Builtin.arguments.items in
    let number : c.len.result ≡ length arguments = search rules in
    laid_plain _ _ (expr_builtin c.args.expr.now c.in-Builtin.function c.in-Builtin.arguments c.in-Builtin.is)
    (lays_append (lays_same (ap (λ es. exprs_instrs (plain_exprs es)) c.deref-in-Builtin.ensures.value) c.lay_exprs.ensures)
    (lays_same (ap (λ n. PlainInstr.builtin c.in-Builtin.function n ∷ []) (number ∙ sym (counted arguments))) c.put_builtin.ensures))

pub lay_index-returns-in-None : goal.lay_index-returns-in-None
lay_index-returns-in-None g t c = lays_same (sym (ap index_instrs (reference_simple c.args.variable.now c.in-None.is))) lays_nothing

pub lay_exprs-loop-expr-init : goal.lay_exprs-loop-expr-init
lay_exprs-loop-expr-init g t c = lays_nothing

pub lay_exprs-loop-expr-preserved : goal.lay_exprs-loop-expr-preserved
lay_exprs-loop-expr-preserved g t c =
    lays_same
    (sym (exprs_next c.args.exprs.now c.loop-expr.expr-index c.expr-item.result c.loop-expr-test.true c.expr-item.is))
    (lays_append c.loop-expr.invariant c.lay_expr.ensures)
