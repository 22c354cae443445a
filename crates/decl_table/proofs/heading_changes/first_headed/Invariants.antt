use Rattle.std.specs.Prelude.{◌≡◌, ◌≤◌, ◌-◌, drop, length}
use Rattle.template_tree.specs.Programs.PlainTree.{forest, nodes}
use Rattle.decl_table.proofs.EditedHeadings.{headed}
use Rattle.decl_table.proofs.heading_changes.first_headed.Given as goal

abbrev pub decreases-loop-item : goal.decreases-loop-item
decreases-loop-item l = length (nodes l.tree.items) - l.k

abbrev pub invariant-loop-item : goal.invariant-loop-item
invariant-loop-item l = record {
  left : headed l.name (forest (drop l.k (nodes l.tree.items))) ≡ headed l.name l.tree.items;
  within : l.k ≤ length (nodes l.tree.items);
}
