-- With the names in the rest of the chain, those gathered so far are the names of the whole expression, from the last one
-- on; an operator's right operand moves from the rest to what is gathered. So it is with the expressions of a list.
use Rattle.std.proofs.Common.{◌≡◌, ◌∙◌, ◌≤◌, ◌<◌, ◌-◌, suc, [], ◌∷◌, ◌++◌, length, take, sym, ap, subst, arith, rules}
use Rattle.std.specs.Prelude.{reverse}
use Rattle.plcs_grammar.specs.declared.expr.Expr.{size-Expr}
use Rattle.plcs_grammar.specs.declared.expr.Expr.TheVariants.{Infix}
use Rattle.plcs_grammar.specs.declared.expr.Expr.TheViews.{the_lemmas}
use Rattle.plcs_grammar.specs.PlainExprCases.{expr_bit, expr_builtin, expr_infix, expr_number, expr_paren, expr_prefix, expr_text, expr_variable, reference_subscripted}
use Rattle.plcs_grammar.specs.PlainPhrase.{plain_expr, plain_exprs}
use Rattle.template_tree.specs.Checks.Mention.{names_in, names_in_all, reference_names}
use Rattle.decl_table.proofs.GatheredNames.{Gathered, exprs_turn, gathered_all, gathered_last, gathered_next, gathered_two, take_turn, then_ok}
use Rattle.decl_table.proofs.name_list.NameList.+add_expr.Goals as goal

pub add_expr-loop-rest-preserved : goal.add_expr-loop-rest-preserved
add_expr-loop-rest-preserved t c =
    let a = names_in (plain_expr c.in-Infix.left.value) in
    let b = names_in (plain_expr c.in-Infix.right.value) in
    let whole = ap names_in (expr_infix c.loop-rest.rest.now c.in-Infix.field-0 c.in-Infix.left c.in-Infix.right c.in-Infix.is) in
    let new_is : c.add_expr.new.self ≡ c.loop-rest.self ++ reverse b =
    c.in_ok-add_expr-in-Infix.ensures ∙ ap (λ e. c.loop-rest.self ++ reverse (names_in (plain_expr e))) c.deref.ensures in
    record {
      gathered =
          subst (λ e. Gathered c.args.self.now c.add_expr.new.self (names_in (plain_expr e)) (names_in (plain_expr c.args.expr.now)))
          (sym c.deref-rest.ensures)
          (gathered_next c.args.self.now c.loop-rest.self c.add_expr.new.self (names_in (plain_expr c.loop-rest.rest.now)) a b
          (names_in (plain_expr c.args.expr.now)) new_is whole c.loop-rest.invariant.gathered);
      shallow =
          let smaller : size-Expr c.in-Infix.left.value ≤ size-Expr (Infix c.in-Infix.field-0 c.in-Infix.left c.in-Infix.right) =
          search (rules, the_lemmas) in
          omega (arith, ap size-Expr c.in-Infix.is, smaller, c.loop-rest.invariant.shallow, ap size-Expr c.deref-rest.ensures);
    }

pub add_expr-returns-in-Number : goal.add_expr-returns-in-Number
add_expr-returns-in-Number t c =
    gathered_all c.args.self.now c.loop-rest.self (names_in (plain_expr c.loop-rest.rest.now)) (names_in (plain_expr c.args.expr.now))
    (ap names_in (expr_number c.loop-rest.rest.now c.in-Number.field-0 c.in-Number.is)) c.loop-rest.invariant.gathered

pub add_expr-returns-in-Text : goal.add_expr-returns-in-Text
add_expr-returns-in-Text t c =
    gathered_all c.args.self.now c.loop-rest.self (names_in (plain_expr c.loop-rest.rest.now)) (names_in (plain_expr c.args.expr.now))
    (ap names_in (expr_text c.loop-rest.rest.now c.in-Text.field-0 c.in-Text.is)) c.loop-rest.invariant.gathered

pub add_expr-returns-in-Bit : goal.add_expr-returns-in-Bit
add_expr-returns-in-Bit t c =
    gathered_all c.args.self.now c.loop-rest.self (names_in (plain_expr c.loop-rest.rest.now)) (names_in (plain_expr c.args.expr.now))
    (ap names_in (expr_bit c.loop-rest.rest.now c.in-Bit.field-0 c.in-Bit.is)) c.loop-rest.invariant.gathered

pub add_expr-returns-in-Var : goal.add_expr-returns-in-Var
add_expr-returns-in-Var t c =
    then_ok c.add_variable.result
    (λ is.
    gathered_last c.args.self.now c.loop-rest.self c.add_variable.new.self (names_in (plain_expr c.loop-rest.rest.now)) (names_in (plain_expr c.args.expr.now))
    (is ∙ ap (λ names. c.loop-rest.self ++ reverse names) (sym (ap names_in (expr_variable c.loop-rest.rest.now c.in-Var.variable c.in-Var.is))))
    c.loop-rest.invariant.gathered)
    c.add_variable.ensures

pub add_expr-returns-in-Prefix : goal.add_expr-returns-in-Prefix
add_expr-returns-in-Prefix t c =
    then_ok c.add_expr-in-Prefix.result
    (λ is.
    gathered_last c.args.self.now c.loop-rest.self c.add_expr-in-Prefix.new.self (names_in (plain_expr c.loop-rest.rest.now))
    (names_in (plain_expr c.args.expr.now))
    (is ∙ ap (λ names. c.loop-rest.self ++ reverse names)
    (ap (λ e. names_in (plain_expr e)) c.deref-in-Prefix.ensures
    ∙ sym (ap names_in (expr_prefix c.loop-rest.rest.now c.in-Prefix.field-0 c.in-Prefix.operand c.in-Prefix.is))))
    c.loop-rest.invariant.gathered)
    c.add_expr-in-Prefix.ensures

pub add_expr-returns-in-Builtin : goal.add_expr-returns-in-Builtin
add_expr-returns-in-Builtin t c =
    then_ok c.add_exprs.result
    (λ is.
    gathered_last c.args.self.now c.loop-rest.self c.add_exprs.new.self (names_in (plain_expr c.loop-rest.rest.now)) (names_in (plain_expr c.args.expr.now))
    (is ∙ ap (λ names. c.loop-rest.self ++ reverse names)
    (ap (λ es. names_in_all (plain_exprs es)) c.deref-in-Builtin.ensures.value
    ∙ sym (ap names_in (expr_builtin c.loop-rest.rest.now c.in-Builtin.field-0 c.in-Builtin.arguments c.in-Builtin.is))))
    c.loop-rest.invariant.gathered)
    c.add_exprs.ensures

pub add_expr-returns-in-Paren : goal.add_expr-returns-in-Paren
add_expr-returns-in-Paren t c =
    then_ok c.add_expr-in-Paren.result
    (λ is.
    gathered_last c.args.self.now c.loop-rest.self c.add_expr-in-Paren.new.self (names_in (plain_expr c.loop-rest.rest.now))
    (names_in (plain_expr c.args.expr.now))
    (is ∙ ap (λ names. c.loop-rest.self ++ reverse names)
    (ap (λ e. names_in (plain_expr e)) c.deref-in-Paren.ensures
    ∙ sym (ap names_in (expr_paren c.loop-rest.rest.now c.in-Paren.inside c.in-Paren.is))))
    c.loop-rest.invariant.gathered)
    c.add_expr-in-Paren.ensures

pub add_variable-returns-in_ok-add_expr-in-Some : goal.add_variable-returns-in_ok-add_expr-in-Some
add_variable-returns-in_ok-add_expr-in-Some t c =
    let variable = c.args.variable.now in
    let index = names_in (plain_expr c.in-Some.index.value) in
    then_ok c.add-in-Some.result
    (λ is.
    gathered_two c.args.self.now c.add_expr.new.self c.add-in-Some.new.self (variable.name ∷ []) index
    (c.in_ok-add_expr-in-Some.ensures ∙ ap (λ e. c.args.self.now ++ reverse (names_in (plain_expr e))) c.deref.ensures) is
    ∙ ap (λ r. c.args.self.now ++ reverse (reference_names r)) (sym (reference_subscripted variable c.in-Some.index c.in-Some.is)))
    c.add-in-Some.ensures

pub add_exprs-loop-k-preserved : goal.add_exprs-loop-k-preserved
add_exprs-loop-k-preserved t c =
    let exprs = c.args.exprs.now in
    let k = c.loop-k.k - 1 in
    let item = c.index-exprs-k.result in
    let turn : c.loop-k.k ≡ suc k = omega (arith, c.loop-k-test.true) in
    let within : k < length exprs = omega (arith, c.loop-k.invariant.within, c.loop-k-test.true) in
    let left =
    ap (λ n. names_in_all (plain_exprs (take n exprs))) turn
    ∙ ap (λ xs. names_in_all (plain_exprs xs)) (take_turn exprs k item within c.index-exprs-k.is)
    ∙ exprs_turn (take k exprs) item in
    record {
      gathered =
          gathered_next c.args.self.now c.loop-k.self c.add_expr.new.self (names_in_all (plain_exprs (take c.loop-k.k exprs)))
          (names_in_all (plain_exprs (take k exprs))) (names_in (plain_expr item)) (names_in_all (plain_exprs exprs)) c.in_ok-add_expr.ensures left
          c.loop-k.invariant.gathered;
      within = omega (arith, within);
    }

pub add_exprs-returns : goal.add_exprs-returns
add_exprs-returns t c =
    let exprs = c.args.exprs.now in
    let none : c.loop-k.k ≡ 0 = omega (arith, c.loop-k-test.false) in
    gathered_all c.args.self.now c.loop-k.self (names_in_all (plain_exprs (take c.loop-k.k exprs))) (names_in_all (plain_exprs exprs))
    (ap (λ n. names_in_all (plain_exprs (take n exprs))) none) c.loop-k.invariant.gathered
