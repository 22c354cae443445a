use Rattle.std.proofs.Common.{◌≡◌, ◌≤◌, drop}
use Rattle.plcs_grammar.specs.declared.expr.Expr.{size-Expr}
use Rattle.plcs_grammar.specs.PlainPhrase.{plain_expr, plain_exprs}
use Rattle.template_tree.specs.Checks.ProgramMaps.{items_in}
use Rattle.template_tree.specs.Checks.Verdict.{kind_of, kinds_of}
use Rattle.type_marks.specs.Private.Arguments.{fit_found, taken_of}
use Rattle.type_marks.specs.Private.Chain.{chain_end}
use Rattle.type_marks.proofs.FoundArguments.{fit_left}
use Rattle.type_marks.proofs.kinds.+kind_of.Given as goal

abbrev pub invariant-kind_of-loop-at : goal.invariant-kind_of-loop-at
invariant-kind_of-loop-at l = record {
  whole :
      chain_end l.chain (kind_of (items_in l.decls.items l.procedure.0) (plain_expr l.at))
      ≡ kind_of (items_in l.decls.items l.procedure.0) (plain_expr l.fn.expr);
  shallow : size-Expr l.at ≤ size-Expr l.fn.expr;
}

abbrev pub invariant-fit_arguments-loop-i : goal.invariant-fit_arguments-loop-i
invariant-fit_arguments-loop-i l =
    fit_left l.fits (drop l.i (taken_of l.row)) (kinds_of (items_in l.decls.items l.procedure.0) (plain_exprs (drop l.i l.arguments)))
    ≡ fit_found (taken_of l.row) (kinds_of (items_in l.decls.items l.procedure.0) (plain_exprs l.arguments))
