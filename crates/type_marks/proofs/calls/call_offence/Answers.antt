use Rattle.std.proofs.Common.{◌∙◌, [], length, sym, ap}
use Rattle.plcs_grammar.specs.PlainPhrase.{plain_exprs}
use Rattle.template_tree.specs.Checks.ProgramMaps.{items_in}
use Rattle.template_tree.specs.Checks.Environment.{parameter_kinds}
use Rattle.template_tree.specs.Checks.Verdict.{kinds_of}
use Rattle.type_marks.specs.Private.CallArguments.{arguments_judged}
use Rattle.type_marks.proofs.CallOffences.{another_count, not_missing, same_count}
use Rattle.type_marks.proofs.calls.call_offence.Goals as goal

pub unreachable-requires : goal.unreachable-requires
unreachable-requires c =
    not_missing c.args.decls.now c.args.tree.now.items c.args.name.now c.in-Some-signature.slot.0 c.in-Some-signature.ensures c.requires.heading
    c.requires.tree.once c.in_default-procedure_in.ensures

pub returns-then-arguments-parameters : goal.returns-then-arguments-parameters
returns-then-arguments-parameters c =
    let items = items_in c.args.decls.now.items c.args.procedure.0 in
    another_count c.args.decls.now c.args.tree.now.items c.args.name.now c.in-Some-signature.slot.0 c.in-Some-signature.ensures c.requires.heading
    c.requires.tree.once c.in-Some-procedure_in.called.now c.in-Some-procedure_in.ensures c.requires.parameters items c.args.arguments.now
    c.in_default.ensures (λ same. c.if-arguments-parameters.true (same ∙ ap length (sym c.called_parameters-parameters.ensures)))

pub returns : goal.returns
returns c =
    let items = items_in c.args.decls.now.items c.args.procedure.0 in
    let slot = c.in-Some-signature.slot.0 in
    c.arguments_offence.ensures
    ∙ ap (λ names. arguments_judged (parameter_kinds (items_in c.args.decls.now.items slot) [] names) (kinds_of items (plain_exprs c.args.arguments.now)))
    c.called_parameters-parameters.ensures
    ∙ same_count c.args.decls.now c.args.tree.now.items c.args.name.now slot c.in-Some-signature.ensures c.requires.heading
    c.requires.tree.once c.in-Some-procedure_in.called.now c.in-Some-procedure_in.ensures c.requires.parameters items c.args.arguments.now
    c.in_default.ensures (c.if-arguments-parameters.false ∙ ap length c.called_parameters-parameters.ensures)
