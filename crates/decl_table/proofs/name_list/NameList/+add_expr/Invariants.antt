use Rattle.std.specs.Prelude.{◌≤◌, length, take}
use Rattle.plcs_grammar.specs.declared.expr.Expr.{size-Expr}
use Rattle.plcs_grammar.specs.PlainPhrase.{plain_expr, plain_exprs}
use Rattle.template_tree.specs.Checks.Mention.{names_in, names_in_all}
use Rattle.decl_table.proofs.GatheredNames.{Gathered}
use Rattle.decl_table.proofs.name_list.NameList.+add_expr.Given as goal

abbrev pub invariant-add_expr-loop-rest : goal.invariant-add_expr-loop-rest
invariant-add_expr-loop-rest l = record {
  gathered : Gathered l.fn.self l.self (names_in (plain_expr l.rest)) (names_in (plain_expr l.fn.expr));
  shallow : size-Expr l.rest ≤ size-Expr l.fn.expr;
}

abbrev pub invariant-add_exprs-loop-k : goal.invariant-add_exprs-loop-k
invariant-add_exprs-loop-k l = record {
  gathered :
      Gathered l.fn.self l.self (names_in_all (plain_exprs (take l.k l.exprs))) (names_in_all (plain_exprs l.exprs));
  within : l.k ≤ length l.exprs;
}

abbrev pub decreases-add_exprs-loop-k : goal.decreases-add_exprs-loop-k
decreases-add_exprs-loop-k l = l.k
