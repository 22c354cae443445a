use Rattle.std.proofs.Common.{◌≡◌, drop}
use Rattle.plcs_grammar.specs.PlainPhrase.{plain_exprs}
use Rattle.template_tree.specs.Checks.ProgramMaps.{items_in}
use Rattle.template_tree.specs.Checks.Verdict.{kinds_of, offence_in}
use Rattle.type_marks.proofs.statements.exprs_offence.Given as goal

abbrev pub invariant-loop-expr : goal.invariant-loop-expr
invariant-loop-expr l =
    offence_in (kinds_of (items_in l.decls.items l.procedure.0) (plain_exprs (drop l.expr-index l.exprs)))
    ≡ offence_in (kinds_of (items_in l.decls.items l.procedure.0) (plain_exprs l.exprs))
