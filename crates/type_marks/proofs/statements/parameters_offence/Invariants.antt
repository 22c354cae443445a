use Rattle.std.proofs.Common.{◌≡◌, drop}
use Rattle.template_tree.specs.Checks.ProgramMaps.{items_in}
use Rattle.template_tree.specs.Checks.Verdict.{parameters_offence}
use Rattle.type_marks.proofs.statements.parameters_offence.Given as goal

abbrev pub invariant-loop-name : goal.invariant-loop-name
invariant-loop-name l =
    parameters_offence (items_in l.decls.items l.procedure.0) l.names (drop l.name-index l.names)
    ≡ parameters_offence (items_in l.decls.items l.procedure.0) l.names l.names
