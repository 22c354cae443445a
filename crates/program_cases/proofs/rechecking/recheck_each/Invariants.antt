use Rattle.std.proofs.Common.{◌≡◌}
use Rattle.decl_table.specs.Agreement.{IsDeclsOf}
use Rattle.template_tree.specs.Checks.Marks.{Verdicts}
use Rattle.template_tree.specs.Programs.Tree.{IsTree}
use Rattle.program_cases.proofs.rechecking.recheck_each.Given as goal

-- what is kept is that of the program
abbrev pub invariant-loop-line : goal.invariant-loop-line
invariant-loop-line l = record {
  tree : IsTree l.tree;
  decls : IsDeclsOf l.checks.decls l.tree.items;
  marks : l.checks.marks.verdicts ≡ Verdicts l.tree.items;
}
