use Rattle.std.proofs.Common.{◌≡◌, drop, map}
use Rattle.plcs_grammar.specs.PlainPhrase.{plain_var_ref}
use Rattle.template_tree.specs.Checks.ProgramMaps.{items_in}
use Rattle.template_tree.specs.Checks.Verdict.{references_offence}
use Rattle.type_marks.proofs.statements.references_offence.Given as goal

abbrev pub invariant-loop-reference : goal.invariant-loop-reference
invariant-loop-reference l =
    references_offence (items_in l.decls.items l.procedure.0) (map plain_var_ref (drop l.reference-index l.references))
    ≡ references_offence (items_in l.decls.items l.procedure.0) (map plain_var_ref l.references)
