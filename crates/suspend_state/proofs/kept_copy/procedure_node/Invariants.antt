use Rattle.std.specs.Prelude.{◌≡◌, ◌≤◌, ◌-◌, drop, length}
use Rattle.template_tree.specs.Checks.Environment.{procedure_at}
use Rattle.template_tree.specs.Programs.PlainTree.{forest, nodes}
use Rattle.suspend_state.proofs.kept_copy.procedure_node.Given as goal

abbrev pub decreases-loop-node : goal.decreases-loop-node
decreases-loop-node l = length (nodes l.tree.items) - l.k

abbrev pub invariant-loop-node : goal.invariant-loop-node
invariant-loop-node l = record {
  left : procedure_at (forest (drop l.k (nodes l.tree.items))) l.procedure.0 ≡ procedure_at l.tree.items l.procedure.0;
  within : l.k ≤ length (nodes l.tree.items);
}
