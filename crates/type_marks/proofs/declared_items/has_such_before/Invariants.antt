use Rattle.std.proofs.Common.{◌≡◌, ◌-◌, ◌≤◌, drop, length}
use Rattle.template_tree.specs.Checks.Marks.{declared_before}
use Rattle.template_tree.specs.Programs.PlainTree.{forest, nodes}
use Rattle.type_marks.specs.Private.DeclaredItems.{has_such}
use Rattle.type_marks.proofs.declared_items.has_such_before.Given as goal

abbrev pub decreases-loop-node : goal.decreases-loop-node
decreases-loop-node l = length (nodes l.procedure.inner) - l.k

abbrev pub invariant-loop-node : goal.invariant-loop-node
invariant-loop-node l = record {
  left :
      has_such l.name l.cells (declared_before (forest (drop l.k (nodes l.procedure.inner))) l.slot.0)
      ≡ has_such l.name l.cells (declared_before l.procedure.inner l.slot.0);
  within : l.k ≤ length (nodes l.procedure.inner);
}
