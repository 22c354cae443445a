use Rattle.std.specs.Prelude.{◌≡◌, ◌-◌, ◌≤◌, drop, length}
use Rattle.template_tree.specs.Checks.Environment.{all_declared, effective, items_inside}
use Rattle.template_tree.specs.Programs.PlainTree.{forest, nodes}
use Rattle.decl_table.proofs.item_fold.ItemFold.declare_inside.Given as goal

abbrev pub decreases-loop-node : goal.decreases-loop-node
decreases-loop-node l = length (nodes l.procedure.inner) - l.k

abbrev pub invariant-loop-node : goal.invariant-loop-node
invariant-loop-node l = record {
  made : effective l.self (all_declared (forest (drop l.k (nodes l.procedure.inner)))) ≡ items_inside l.procedure.inner;
  within : l.k ≤ length (nodes l.procedure.inner);
}
