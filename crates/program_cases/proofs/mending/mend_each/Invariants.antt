use Rattle.template_tree.specs.Programs.Tree.{IsTree}
use Rattle.unparse_layout.specs.Agreement.{IsLayoutOf}
use Rattle.program_cases.proofs.mending.mend_each.Given as goal

abbrev pub invariant-loop-word : goal.invariant-loop-word
invariant-loop-word l = record {
  tree : IsTree l.tree;
  agrees : IsLayoutOf l.layout l.tree;
}
