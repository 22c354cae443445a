-- Each case puts, piece by piece, what the canonical text of its plain form has; putting x and then y is putting both.
-- A chain is put by halves: the text of its first operators and then of the others is that of all.
use Rattle.std.proofs.Common.{◌+◌, ◌-◌, ◌/◌, ◌<◌, ◌≡◌, [], ◌∷◌, length, take, sym, ap, append_assoc, ◌∙◌, arith, rules}
use Rattle.std.proofs.Math.Seq.{take-length}
use Rattle.plcs_base.specs.Put.{puts_nothing}
use Rattle.plcs_grammar.specs.declared.expr.Expr.{size-Expr}
use Rattle.plcs_grammar.specs.PlainPhrase.{PlainExpr, PlainVarRef, plain_expr, plain_exprs}
use Rattle.plcs_grammar.specs.Sign.{infix_sign, sign_bytes}
use Rattle.plcs_grammar.specs.Canon.{canon, canon_reference, joined}
use Rattle.plcs_grammar.specs.Private.Chain.{chain_text}
use Rattle.plcs_base.specs.Putting.{puts_append, puts_same, puts_three}
use Rattle.plcs_grammar.proofs.ParenthesizedTexts.{puts_parenthesized}
use Rattle.plcs_grammar.proofs.EqualShown.{shown_plain, shown_reference}
use Rattle.plcs_grammar.proofs.ChainTexts.{chain_whole, chain_halves, chain_none}
use Rattle.plcs_grammar.proofs.JoinedTexts.{joined_next, list_is}
use Rattle.plcs_grammar.specs.PlainExprCases.{expr_prefix, expr_infix, expr_builtin, expr_paren, reference_subscripted}
use Rattle.plcs_grammar.proofs.ChainOperands.{no_operator, operands_shallower}
use Rattle.plcs_grammar.proofs.show_expr.+show_expr.Goals as goal

pub show_expr-returns-in-Prefix : goal.show_expr-returns-in-Prefix
show_expr-returns-in-Prefix g t c =
    let plain = expr_prefix c.args.expr.now c.in-Prefix.op c.in-Prefix.operand c.in-Prefix.is in
    shown_plain _ _ plain
    (puts_same (ap (λ e. canon (PlainExpr.unary c.in-Prefix.op (plain_expr e))) c.deref-in-Prefix.ensures) c.show_prefix.ensures)

pub show_expr-returns-in-Infix : goal.show_expr-returns-in-Infix
show_expr-returns-in-Infix g t c =
    let op = c.in-Infix.op in
    let plain = expr_infix c.args.expr.now op c.in-Infix.left c.in-Infix.right c.in-Infix.is in
    let left = ap (λ e. canon (PlainExpr.binary op (plain_expr e) (plain_expr c.deref-in-Infix-2.result.now))) c.deref-in-Infix.ensures in
    let right = ap (λ e. canon (PlainExpr.binary op (plain_expr c.in-Infix.left.value) (plain_expr e))) c.deref-in-Infix-2.ensures in
    shown_plain _ _ plain (puts_same (left ∙ right) c.show_infix.ensures)

pub show_expr-returns-in-Builtin : goal.show_expr-returns-in-Builtin
show_expr-returns-in-Builtin g t c =
    let function = c.in-Builtin.function in
    let plain = expr_builtin c.args.expr.now function c.in-Builtin.arguments c.in-Builtin.is in
    shown_plain _ _ plain
    (puts_same (ap (λ es. canon (PlainExpr.builtin function (plain_exprs es))) c.deref-in-Builtin.ensures.value) c.show_builtin.ensures)

pub show_expr-returns-in-Paren : goal.show_expr-returns-in-Paren
show_expr-returns-in-Paren g t c =
    let plain = expr_paren c.args.expr.now c.in-Paren.inside c.in-Paren.is in
    shown_plain _ _ plain
    (puts_same (ap (λ e. canon (PlainExpr.parenthesized (plain_expr e))) c.deref-in-Paren.ensures) c.show_paren.ensures)

pub show_prefix-returns : goal.show_prefix-returns
show_prefix-returns g t c =
    puts_append (puts_same (c.bytes.ensures ∙ ap sign_bytes c.sign.ensures) c.put_bytes.ensures) c.show_expr.ensures

pub show_infix-returns : goal.show_infix-returns
show_infix-returns g t c =
    let left = plain_expr c.args.left.now in
    let operators = c.count_operators-operators.result in
    let first = puts_same (ap canon c.leftmost.ensures.plain) c.show_expr.ensures in
    puts_append (puts_same (chain_whole left operators) (puts_append first c.show_operators.ensures)) c.show_operator.ensures

pub show_builtin-returns : goal.show_builtin-returns
show_builtin-returns g t c =
    puts_parenthesized (puts_same c.name.ensures c.put_bytes.ensures) c.put.ensures c.show_exprs.ensures c.put-2.ensures

pub show_paren-returns : goal.show_paren-returns
show_paren-returns g t c = puts_three c.put_bytes.ensures c.show_expr.ensures c.put_bytes-2.ensures

pub show_operator-returns : goal.show_operator-returns
show_operator-returns g t c =
    let text = append_assoc (sign_bytes (infix_sign c.args.op)) (32 ∷ []) (canon (plain_expr c.args.right.now)) in
    puts_same (ap (λ bytes. 32 ∷ bytes) text) (puts_append (puts_same c.spaced.ensures c.put_bytes.ensures) c.show_expr.ensures)

pub show_chain-returns-then-operators-gt1 : goal.show_chain-returns-then-operators-gt1
show_chain-returns-then-operators-gt1 g t c =
    let chain = plain_expr c.args.chain.now in
    let operators = c.args.operators in
    let half = operators / 2 in
    let both : operators - half + half ≡ operators = omega arith in
    let front = puts_same (ap (λ e. chain_text e (operators - half)) c.leftmost.ensures.plain) c.show_chain.ensures in
    puts_same
    (chain_halves chain (operators - half) half ∙ ap (chain_text chain) both)
    (puts_append front c.show_chain-then-operators-gt1.ensures)

pub show_chain-returns-else-operators-gt1 : goal.show_chain-returns-else-operators-gt1
show_chain-returns-else-operators-gt1 g t c =
    let none : c.args.operators ≡ 0 = omega arith in
    let plain = expr_infix c.args.chain.now c.in-Infix.op c.in-Infix.field-1 c.in-Infix.right c.in-Infix.is in
    puts_same (sym (ap (chain_text (plain_expr c.args.chain.now)) none ∙ ap (λ e. chain_text e 0) plain)) puts_nothing

pub show_chain-returns-in_default : goal.show_chain-returns-in_default
show_chain-returns-in_default g t c =
    puts_same (sym (no_operator c.args.chain.now c.args.operators c.in_default.not-Infix)) puts_nothing

pub show_exprs-loop-i-init : goal.show_exprs-loop-i-init
show_exprs-loop-i-init g t c = puts_nothing

pub show_exprs-loop-i-preserved : goal.show_exprs-loop-i-preserved
show_exprs-loop-i-preserved g t c =
    let inside : c.loop-i.i < length c.args.exprs.now = omega arith in
    let step = joined_next (λ e. canon (plain_expr e)) c.args.exprs.now c.loop-i.i c.index-exprs-i.result inside c.index-exprs-i.is in
    puts_same (sym step) (puts_three c.loop-i.invariant c.put_separator.ensures c.show_expr.ensures)

pub show_exprs-returns : goal.show_exprs-returns
show_exprs-returns g t c =
    let all : take c.loop-i.i c.args.exprs.now ≡ c.args.exprs.now =
    ap (λ i. take i c.args.exprs.now) (omega arith) ∙ take-length c.args.exprs.now in
    puts_same (ap (joined (λ e. canon (plain_expr e))) all ∙ list_is c.args.exprs.now) c.loop-i.invariant

pub show_variable-returns-in-Some : goal.show_variable-returns-in-Some
show_variable-returns-in-Some g t c =
    let reference = reference_subscripted c.args.variable.now c.in-Some.index c.in-Some.is in
    shown_reference _ _ reference
    (puts_same (ap (λ e. canon_reference (PlainVarRef.subscripted c.args.variable.now.name (plain_expr e))) c.deref.ensures)
    c.show_element.ensures)

pub show_element-returns : goal.show_element-returns
show_element-returns g t c =
    puts_parenthesized (puts_same c.as_bytes.ensures.bytes c.put_bytes.ensures) c.put.ensures c.show_expr.ensures c.put-2.ensures

pub show_operators-returns-else-operators-gt0 : goal.show_operators-returns-else-operators-gt0
show_operators-returns-else-operators-gt0 g t c =
    let chain = plain_expr c.args.chain.now in
    let none : c.args.operators ≡ 0 = omega arith in
    puts_same (sym (ap (chain_text chain) none ∙ chain_none chain)) puts_nothing

pub show_expr-show_infix-requires : goal.show_expr-show_infix-requires
show_expr-show_infix-requires g t c κs within =
    let less = operands_shallower c.args.expr.now c.in-Infix.op c.in-Infix.left c.in-Infix.right c.in-Infix.is in
    let left = ap size-Expr c.deref-in-Infix.ensures in
    let right = ap size-Expr c.deref-in-Infix-2.ensures in
    (omega (arith, less.0, less.1, left, right), search rules)

pub show_infix-show_operator-requires : goal.show_infix-show_operator-requires
show_infix-show_operator-requires g t c κs within = (omega arith, search rules)
