use Rattle.template_tree.specs.Programs.Tree.{IsTree}
use Rattle.synth_tests.proofs.tree_memory.all_come_at_last.Given as goal

abbrev pub invariant-loop-edit : goal.invariant-loop-edit
invariant-loop-edit l = IsTree l.tree
