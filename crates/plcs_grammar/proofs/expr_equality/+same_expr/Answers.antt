use Rattle.std.proofs.Common.{◌<◌, length, arith}
use Rattle.plcs_grammar.specs.PlainPhrase.{plain_expr}
use Rattle.plcs_grammar.proofs.UnlikeExprs.{unlike}
use Rattle.plcs_grammar.proofs.EqualPlainPhrases.{told_no, told_through, differs_at, images_length, exprs_tell, listed_exprs}
use Rattle.plcs_grammar.specs.PlainExprCases.{expr_number, expr_text, expr_bit, expr_variable, expr_prefix, expr_infix, expr_builtin, expr_paren}
use Rattle.plcs_grammar.proofs.expr_equality.+same_expr.Goals as goal

pub same_exprs-returns-then-all-others : goal.same_exprs-returns-then-all-others
same_exprs-returns-then-all-others t c = told_no (λ e. c.if-all-others.true (images_length plain_expr _ _ (exprs_tell _ _ e)))

pub same_exprs-returns-then-not-same_expr : goal.same_exprs-returns-then-not-same_expr
same_exprs-returns-then-not-same_expr t c =
    let i = c.loop-i.i in
    let inside : i < length c.args.all.now = omega arith in
    let within : i < length c.args.others.now = omega arith in
    told_through _ (listed_exprs _ _)
    (differs_at plain_expr _ _ i _ _ inside within c.index-all-i.is c.index-others-i.is c.same_expr.ensures c.if-not-same_expr.true)

-- The two expressions are of different variants, one goal for each variant of the first.
pub same_expr-returns-in_default : goal.same_expr-returns-in_default
same_expr-returns-in_default t c =
    told_through _ c.loop-left.invariant.0 (unlike _ _ _ (expr_infix _ _ _ _ c.in_default.is-0) (λ of. c.in_default.not-Infix-1 of.0 of.1 of.2 of.3))

pub same_expr-returns-in_default-2 : goal.same_expr-returns-in_default-2
same_expr-returns-in_default-2 t c =
    told_through _ c.loop-left.invariant.0 (unlike _ _ _ (expr_number _ _ c.in_default.is-0) (λ of. c.in_default.not-Number-1 of.0 of.1))

pub same_expr-returns-in_default-3 : goal.same_expr-returns-in_default-3
same_expr-returns-in_default-3 t c =
    told_through _ c.loop-left.invariant.0 (unlike _ _ _ (expr_text _ _ c.in_default.is-0) (λ of. c.in_default.not-Text-1 of.0 of.1))

pub same_expr-returns-in_default-4 : goal.same_expr-returns-in_default-4
same_expr-returns-in_default-4 t c =
    told_through _ c.loop-left.invariant.0 (unlike _ _ _ (expr_bit _ _ c.in_default.is-0) (λ of. c.in_default.not-Bit-1 of.0 of.1))

pub same_expr-returns-in_default-5 : goal.same_expr-returns-in_default-5
same_expr-returns-in_default-5 t c =
    told_through _ c.loop-left.invariant.0 (unlike _ _ _ (expr_variable _ _ c.in_default.is-0) (λ of. c.in_default.not-Var-1 of.0 of.1))

pub same_expr-returns-in_default-6 : goal.same_expr-returns-in_default-6
same_expr-returns-in_default-6 t c =
    told_through _ c.loop-left.invariant.0 (unlike _ _ _ (expr_prefix _ _ _ c.in_default.is-0) (λ of. c.in_default.not-Prefix-1 of.0 of.1 of.2))

pub same_expr-returns-in_default-7 : goal.same_expr-returns-in_default-7
same_expr-returns-in_default-7 t c =
    told_through _ c.loop-left.invariant.0 (unlike _ _ _ (expr_builtin _ _ _ c.in_default.is-0) (λ of. c.in_default.not-Builtin-1 of.0 of.1 of.2))

pub same_expr-returns-in_default-8 : goal.same_expr-returns-in_default-8
same_expr-returns-in_default-8 t c =
    told_through _ c.loop-left.invariant.0 (unlike _ _ _ (expr_paren _ _ c.in_default.is-0) (λ of. c.in_default.not-Paren-1 of.0 of.1))
