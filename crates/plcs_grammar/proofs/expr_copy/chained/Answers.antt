use Rattle.std.proofs.Common.{refl, sym, ap, ◌∙◌}
use Rattle.plcs_grammar.specs.PlainPhrase.{PlainExpr, plain_expr}
use Rattle.plcs_grammar.specs.Private.Link.{linked}
use Rattle.plcs_grammar.specs.PlainExprCases.{expr_infix}
use Rattle.plcs_grammar.proofs.LinkedChains.{linked_push}
use Rattle.plcs_grammar.proofs.expr_copy.chained.Goals as goal

pub loop-last-preserved : goal.loop-last-preserved
loop-last-preserved c =
    let last = c.in-Some.last in
    let chain = c.loop-last.chain in
    let whole = expr_infix _ last.op c.in_ok-left.left c.in_ok-right.right refl in
    let op = last.op in
    let parts = ap (λ e. PlainExpr.binary op (plain_expr e) (plain_expr c.in_ok-right.right.value)) c.in_ok-left.ensures.ok
    ∙ ap (λ e. PlainExpr.binary op (plain_expr chain) (plain_expr e)) c.in_ok-right.ensures.ok in
    ap (λ t. linked t c.pop.new.self.items) (whole ∙ parts)
    ∙ sym (linked_push (plain_expr chain) c.pop.new.self.items last)
    ∙ ap (linked (plain_expr chain)) (sym c.in-Some.ensures.items)
    ∙ c.loop-last.invariant
