use Rattle.std.proofs.Common.{◌≡◌, ◌∙◌, ◌+◌, ◌∷◌, suc, add-one, length, drop, drop-cons, slice_get, sym, ap, subst}
use Rattle.std.specs.Prelude.{◌&&◌}
use Rattle.std.proofs.Math.ListN.{drop_of_length-le}
use Rattle.plcs_grammar.specs.PlainPhrase.{plain_expr, plain_exprs}
use Rattle.template_tree.specs.Checks.ProgramMaps.{items_in}
use Rattle.template_tree.specs.Checks.Verdict.{kind_of, kinds_of}
use Rattle.type_marks.specs.Private.Arguments.{fit_found, judged, takes_kind, taken_of}
use Rattle.type_marks.specs.Private.Chain.{chain_end}
use Rattle.type_marks.proofs.FoundArguments.{fit_end, fit_left, fit_next, judged_is, kinds_length}
use Rattle.plcs_grammar.specs.PlainExprCases.{expr_builtin}
use Rattle.type_marks.proofs.kinds.+kind_of.Goals as goal
use Rattle.type_marks.proofs.kinds.+kind_of.Goals.{fit_arguments-then-fits, fit_arguments-else-fits}

pub fit_arguments-loop-i-preserved : goal.fit_arguments-loop-i-preserved
fit_arguments-loop-i-preserved t c =
    let items = items_in c.args.decls.now.items c.args.procedure.0 in
    let exprs = c.args.arguments.now in
    let i = c.loop-i.i in
    let taken = taken_of c.args.row in
    let kind = c.in-Ok.kind in
    let fitting : c.if-fits.fits ≡ (c.loop-i.fits && takes_kind (slice_get taken i) kind) =
    elim c.if-fits.branch [
      | fit_arguments-then-fits w ↦ w.fits-is ∙ w.takes_kind-fits.ensures ∙ ap (λ o. takes_kind o kind) w.taken.ensures ∙ ap (λ b. b && takes_kind (slice_get taken i) kind) (sym w.if-fits.true)
      | fit_arguments-else-fits w ↦ w.fits-is ∙ w.if-fits.false ∙ ap (λ b. b && takes_kind (slice_get taken i) kind) (sym w.if-fits.false)
    ] in
    let expr = c.index-arguments-i.result in
    let left : drop i exprs ≡ expr ∷ drop (i + 1) exprs =
    drop-cons exprs i expr c.loop-i-test.true ∙ ap (λ x. x ∷ drop (suc i) exprs) (sym c.index-arguments-i.is) ∙ ap (λ n. expr ∷ drop n exprs) (sym (add-one i)) in
    subst (λ fits. fit_left fits (drop (i + 1) taken) (kinds_of items (plain_exprs (drop (i + 1) exprs))) ≡ fit_found taken (kinds_of items (plain_exprs exprs))) (sym fitting)
    (fit_next items exprs i c.index-arguments-i.result c.loop-i.fits taken kind left c.in-Ok.ensures ∙ c.loop-i.invariant)

pub fit_arguments-returns : goal.fit_arguments-returns
fit_arguments-returns t c =
    let items = items_in c.args.decls.now.items c.args.procedure.0 in
    fit_end items c.args.arguments.now c.loop-i.i c.loop-i.fits (drop c.loop-i.i (taken_of c.args.row))
    (drop_of_length-le c.args.arguments.now c.loop-i-test.false)
    ∙ c.loop-i.invariant

pub kind_of-returns-in-Builtin : goal.kind_of-returns-in-Builtin
kind_of-returns-in-Builtin t c =
    let items = items_in c.args.decls.now.items c.args.procedure.0 in
    let arguments = c.in-Builtin.arguments.items in
    let function = c.in-Builtin.function in
    let row = c.builtin_row-row.result in
    let found : c.judged.result ≡ kind_of items (plain_expr c.loop-at.at.now) =
    c.judged.ensures
    ∙ ap (judged row c.len.result) (c.fit_arguments-found.ensures ∙ ap (λ es. fit_found (taken_of row) (kinds_of items (plain_exprs es))) c.deref-in-Builtin.ensures.value)
    ∙ judged_is row function c.len.result (kinds_of items (plain_exprs arguments)) c.builtin_row-row.ensures
    (λ kinds is. kinds_length items arguments kinds is ∙ ap length (sym c.deref-in-Builtin.ensures.value) ∙ c.deref-in-Builtin.ensures.len ∙ sym c.len.ensures)
    ∙ ap (kind_of items) (sym (expr_builtin c.loop-at.at.now function c.in-Builtin.arguments c.in-Builtin.is)) in
    c.end-in-Builtin.ensures ∙ ap (chain_end c.loop-at.chain) found ∙ c.loop-at.invariant.whole
