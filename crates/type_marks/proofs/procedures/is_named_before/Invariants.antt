use Rattle.std.proofs.Common.{◌≡◌, ◌-◌, ◌≤◌, drop, length}
use Rattle.std.specs.Prelude.{is_some}
use Rattle.template_tree.specs.Checks.Environment.{Sig}
use Rattle.template_tree.specs.Checks.Marks.{procedures_before}
use Rattle.template_tree.specs.Programs.PlainTree.{forest, nodes}
use Rattle.type_marks.proofs.procedures.is_named_before.Given as goal

abbrev pub decreases-loop-node : goal.decreases-loop-node
decreases-loop-node l = length (nodes l.tree.items) - l.k

abbrev pub invariant-loop-node : goal.invariant-loop-node
invariant-loop-node l = record {
  left :
      is_some (Sig (procedures_before (forest (drop l.k (nodes l.tree.items))) l.slot.0) l.name)
      ≡ is_some (Sig (procedures_before l.tree.items l.slot.0) l.name);
  within : l.k ≤ length (nodes l.tree.items);
}
