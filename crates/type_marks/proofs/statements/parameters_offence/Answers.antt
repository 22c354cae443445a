use Rattle.std.proofs.Common.{◌≡◌, ◌∙◌, ◌+◌, ◌∷◌, suc, add-one, drop, drop-cons, sym, ap}
use Rattle.std.specs.Option.{option_or}
use Rattle.template_tree.specs.Checks.ProgramMaps.{items_in}
use Rattle.template_tree.specs.Checks.Verdict.{parameters_offence}
use Rattle.type_marks.proofs.statements.parameters_offence.Goals as goal

pub returns-in-Some : goal.returns-in-Some
returns-in-Some c =
    let items = items_in c.args.decls.now.items c.args.procedure.0 in
    let names = c.args.names.now in
    let i = c.loop-name.name-index in
    let name = c.name-item.result in
    let left : drop i names ≡ name ∷ drop (i + 1) names =
    drop-cons names i name c.loop-name-test.true ∙ ap (λ x. x ∷ drop (suc i) names) (sym c.name-item.is) ∙ ap (λ n. name ∷ drop n names) (sym (add-one i)) in
    ap (λ o. option_or o (parameters_offence items names (drop (i + 1) names))) c.in-Some.ensures
    ∙ ap (parameters_offence items names) (sym left)
    ∙ c.loop-name.invariant

pub loop-name-preserved : goal.loop-name-preserved
loop-name-preserved c =
    let items = items_in c.args.decls.now.items c.args.procedure.0 in
    let names = c.args.names.now in
    let i = c.loop-name.name-index in
    let name = c.name-item.result in
    let left : drop i names ≡ name ∷ drop (i + 1) names =
    drop-cons names i name c.loop-name-test.true ∙ ap (λ x. x ∷ drop (suc i) names) (sym c.name-item.is) ∙ ap (λ n. name ∷ drop n names) (sym (add-one i)) in
    ap (λ o. option_or o (parameters_offence items names (drop (i + 1) names))) c.in_default.ensures
    ∙ ap (parameters_offence items names) (sym left)
    ∙ c.loop-name.invariant
