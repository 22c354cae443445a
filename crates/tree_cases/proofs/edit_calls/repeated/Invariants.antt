use Rattle.template_tree.specs.Programs.Tree.{IsTree}
use Rattle.tree_cases.proofs.edit_calls.repeated.Given as goal

abbrev pub invariant-loop-k : goal.invariant-loop-k
invariant-loop-k l = IsTree l.tree
