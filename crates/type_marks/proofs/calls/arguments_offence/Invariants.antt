use Rattle.std.proofs.Common.{◌≡◌, [], drop, take, None}
use Rattle.plcs_grammar.specs.PlainPhrase.{plain_exprs}
use Rattle.template_tree.specs.Checks.ProgramMaps.{items_in}
use Rattle.template_tree.specs.Checks.Environment.{parameter_kinds}
use Rattle.template_tree.specs.Checks.Verdict.{kinds_of, offence_in}
use Rattle.type_marks.specs.Private.CallArguments.{arguments_judged}
use Rattle.type_marks.proofs.calls.arguments_offence.Given as goal

abbrev pub invariant-loop-i : goal.invariant-loop-i
invariant-loop-i l = record {
  fine : offence_in (kinds_of (items_in l.decls.items l.procedure.0) (plain_exprs (drop l.i l.arguments))) ≡ None;
  same :
      arguments_judged (parameter_kinds (items_in l.decls.items l.called.0) (take l.i l.parameters) (drop l.i l.parameters))
      (kinds_of (items_in l.decls.items l.procedure.0) (plain_exprs (drop l.i l.arguments)))
      ≡ arguments_judged (parameter_kinds (items_in l.decls.items l.called.0) [] l.parameters)
      (kinds_of (items_in l.decls.items l.procedure.0) (plain_exprs l.arguments));
}
