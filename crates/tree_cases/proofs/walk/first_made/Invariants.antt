use Rattle.std.specs.Prelude.{◌≡◌, ◌≤◌}
use Rattle.template_tree.specs.Programs.PlainTree.{roomless_tree}
use Rattle.template_tree.specs.Programs.Tree.{IsTree}
use Rattle.tree_cases.proofs.walk.first_made.Given as goal

abbrev pub invariant-loop-rest : goal.invariant-loop-rest
invariant-loop-rest l = record {
  tree : IsTree l.tree;
  same : roomless_tree l.tree ≡ roomless_tree l.initial.tree;
  fewer : l.rest ≤ l.initial.left;
}

abbrev pub decreases-loop-rest : goal.decreases-loop-rest
decreases-loop-rest l = l.rest
