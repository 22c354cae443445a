use Rattle.std.proofs.Common.{map, refl, sym, ap, ◌∙◌, ◌++◌, ◌∷◌, [], arith}
use Rattle.plcs_grammar.specs.PlainPhrase.{PlainExpr, PlainVarRef, exprs_from, plain_expr}
use Rattle.plcs_grammar.specs.declared.expr.Expr.{size-Expr}
use Rattle.plcs_grammar.specs.declared.expr_copy.Link.{Link}
use Rattle.plcs_grammar.specs.Private.Link.{linked}
use Rattle.plcs_grammar.specs.PlainExprCases.{expr_text, expr_bit, expr_variable, expr_prefix, expr_infix, expr_builtin, expr_paren, reference_subscripted}
use Rattle.plcs_grammar.proofs.ChainOperands.{left_no_deeper}
use Rattle.plcs_grammar.proofs.LinkedChains.{linked_push, made_again}
use Rattle.plcs_grammar.proofs.expr_copy.+copy_expr.Goals as goal

pub copy_expr-loop-at-preserved : goal.copy_expr-loop-at-preserved
copy_expr-loop-at-preserved t c =
    let op = c.in-Infix.op in
    let left = plain_expr c.in-Infix.left.value in
    let copied = c.in-Ok.right in
    let links = c.loop-at.links.items in
    let whole = expr_infix c.loop-at.at.now op c.in-Infix.left c.in-Infix.right c.in-Infix.is in
    let parts = ap (PlainExpr.binary op left) (sym (c.in-Ok.ensures ∙ ap plain_expr c.deref.ensures)) in
    let smaller = left_no_deeper c.loop-at.at.now op c.in-Infix.left c.in-Infix.right c.in-Infix.is in
    let link : Link = record { op = op; right = copied } in (
      c.loop-at.invariant.0
          ∙ ap (λ t. linked t links) (whole ∙ parts)
          ∙ sym (linked_push left links link)
          ∙ ap (λ ls. linked left (ls ++ (link ∷ []))) (sym c.reserve.ensures.items)
          ∙ ap (linked left) (sym c.push_reserved.ensures.items)
          ∙ ap (λ e. linked (plain_expr e) c.push_reserved.new.self.items) (sym c.deref-at.ensures),
      omega (arith, c.loop-at.invariant.1, smaller, ap size-Expr c.deref-at.ensures),
    )

-- The leftmost operand and its copy have one plain form, one goal for each variant but numbers.
pub copy_expr-returns-in-Text : goal.copy_expr-returns-in-Text
copy_expr-returns-in-Text t c =
    let inner = ap PlainExpr.text (c.in-Ok-copy_text.ensures ∙ c.deref-in-Text.ensures) in
    made_again _ _ _ _ _ c.loop-at.invariant.0 (expr_text _ _ refl ∙ inner ∙ sym (expr_text _ _ c.in-Text.is)) c.chained-in-Text.ensures

pub copy_expr-returns-in-Bit : goal.copy_expr-returns-in-Bit
copy_expr-returns-in-Bit t c =
    made_again _ _ _ _ _ c.loop-at.invariant.0 (expr_bit _ _ refl ∙ sym (expr_bit _ _ c.in-Bit.is)) c.chained-in-Bit.ensures

pub copy_expr-returns-in-Var : goal.copy_expr-returns-in-Var
copy_expr-returns-in-Var t c =
    let inner = ap PlainExpr.variable c.in-Ok-copy_variable.ensures in
    made_again _ _ _ _ _ c.loop-at.invariant.0 (expr_variable _ _ refl ∙ inner ∙ sym (expr_variable _ _ c.in-Var.is)) c.chained-in-Var.ensures

pub copy_expr-returns-in-Prefix : goal.copy_expr-returns-in-Prefix
copy_expr-returns-in-Prefix t c =
    let inner = ap (PlainExpr.unary c.in-Prefix.op) (c.in-Ok-copy_inside.ensures ∙ ap plain_expr c.deref-in-Prefix.ensures) in
    made_again _ _ _ _ _ c.loop-at.invariant.0 (expr_prefix _ _ _ refl ∙ inner ∙ sym (expr_prefix _ _ _ c.in-Prefix.is)) c.chained-in-Prefix.ensures

pub copy_expr-returns-in-Builtin : goal.copy_expr-returns-in-Builtin
copy_expr-returns-in-Builtin t c =
    let inner = ap (λ es. PlainExpr.builtin c.in-Builtin.function (exprs_from es))
    (c.in-Ok-copy_exprs.ensures ∙ ap (map plain_expr) c.deref-in-Builtin.ensures.value) in
    made_again _ _ _ _ _ c.loop-at.invariant.0 (expr_builtin _ _ _ refl ∙ inner ∙ sym (expr_builtin _ _ _ c.in-Builtin.is))
    c.chained-in-Builtin.ensures

pub copy_expr-returns-in-Paren : goal.copy_expr-returns-in-Paren
copy_expr-returns-in-Paren t c =
    let inner = ap PlainExpr.parenthesized (c.in-Ok-copy_inside-2.ensures ∙ ap plain_expr c.deref-in-Paren.ensures) in
    made_again _ _ _ _ _ c.loop-at.invariant.0 (expr_paren _ _ refl ∙ inner ∙ sym (expr_paren _ _ c.in-Paren.is)) c.chained-in-Paren.ensures

pub copy_variable-returns-in-Ok-copy_inside : goal.copy_variable-returns-in-Ok-copy_inside
copy_variable-returns-in-Ok-copy_inside t c =
    let variable = c.args.variable.now in
    let made = c.in-Ok-copy_inside.index in
    let index = c.in-Ok-copy_inside.ensures ∙ ap plain_expr c.deref.ensures in
    let same = ap (λ name. PlainVarRef.subscripted name (plain_expr made.value)) c.in-Ok.ensures
    ∙ ap (PlainVarRef.subscripted variable.name) index in
    reference_subscripted _ made refl ∙ same ∙ sym (reference_subscripted variable c.in-Some.index c.in-Some.is)
