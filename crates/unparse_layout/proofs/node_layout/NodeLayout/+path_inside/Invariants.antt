use Rattle.std.specs.Prelude.{◌≡◌, ◌≤◌, ◌-◌, drop, length}
use Rattle.unparse_layout.specs.Bones.{bone_count}
use Rattle.unparse_layout.specs.Private.LayoutPaths.{bone_times}
use Rattle.unparse_layout.specs.Private.PlainNodeLayout.{bones}
use Rattle.unparse_layout.proofs.node_layout.NodeLayout.+path_inside.Given as goal

abbrev pub decreases-path_inside : goal.decreases-path_inside
decreases-path_inside l = bone_count l.self.now.inner

abbrev pub decreases-loop-item : goal.decreases-loop-item
decreases-loop-item l = length l.self-inside.inner.items - l.k

abbrev pub invariant-loop-item : goal.invariant-loop-item
invariant-loop-item l = record {
  left :
      bone_times l.slot.0 (bones l.self-inside.inner.items) ≡ bone_times l.slot.0 (bones (drop l.k l.self-inside.inner.items));
  within : l.k ≤ length l.self-inside.inner.items;
}
