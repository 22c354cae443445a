use Rattle.std.specs.Prelude.{◌≡◌, ◌≤◌, ◌-◌, drop, length}
use Rattle.decl_table.specs.Private.NamePaths.{name_count, name_times}
use Rattle.decl_table.specs.Private.PlainNameNode.{name_forest}
use Rattle.decl_table.proofs.name_node.NameNode.+path_inside.Given as goal

abbrev pub decreases-path_inside : goal.decreases-path_inside
decreases-path_inside l = name_count l.self.now.inner

abbrev pub decreases-loop-item : goal.decreases-loop-item
decreases-loop-item l = length l.self-inside.inner.items - l.k

abbrev pub invariant-loop-item : goal.invariant-loop-item
invariant-loop-item l = record {
  left :
      name_times l.slot.0 (name_forest l.self-inside.inner.items) ≡ name_times l.slot.0 (name_forest (drop l.k l.self-inside.inner.items));
  within : l.k ≤ length l.self-inside.inner.items;
}
