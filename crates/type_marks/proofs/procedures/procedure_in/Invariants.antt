use Rattle.std.proofs.Common.{◌≡◌, ◌-◌, ◌≤◌, drop, length}
use Rattle.template_tree.specs.Checks.Environment.{procedure_at}
use Rattle.template_tree.specs.Programs.PlainTree.{forest, nodes}
use Rattle.type_marks.proofs.procedures.procedure_in.Given as goal

abbrev pub decreases-loop-node : goal.decreases-loop-node
decreases-loop-node l = length (nodes l.tree.items) - l.k

abbrev pub invariant-loop-node : goal.invariant-loop-node
invariant-loop-node l = record {
  left : procedure_at (forest (drop l.k (nodes l.tree.items))) l.slot.0 ≡ procedure_at l.tree.items l.slot.0;
  within : l.k ≤ length (nodes l.tree.items);
}
