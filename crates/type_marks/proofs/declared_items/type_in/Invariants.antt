use Rattle.std.proofs.Common.{◌≡◌, ◌-◌, ◌≤◌, drop, length}
use Rattle.template_tree.specs.Checks.Marks.{type_in}
use Rattle.template_tree.specs.Programs.PlainTree.{forest, nodes}
use Rattle.type_marks.proofs.declared_items.type_in.Given as goal

abbrev pub decreases-loop-node : goal.decreases-loop-node
decreases-loop-node l = length (nodes l.procedure.inner) - l.k

abbrev pub invariant-loop-node : goal.invariant-loop-node
invariant-loop-node l = record {
  left : type_in (forest (drop l.k (nodes l.procedure.inner))) l.slot.0 ≡ type_in l.procedure.inner l.slot.0;
  within : l.k ≤ length (nodes l.procedure.inner);
}
