use Rattle.std.specs.Prelude.{◌≡◌, ◌+◌, ◌≤◌, drop}
use Rattle.template_tree.specs.Programs.PlainTree.{forest}
use Rattle.template_tree.specs.Programs.Slots.{count}
use Rattle.template_tree.proofs.limit_reached.+slots_left.Given as goal

abbrev pub decreases-slots_left : goal.decreases-slots_left
decreases-slots_left l = l.slots

abbrev pub invariant-loop-node : goal.invariant-loop-node
invariant-loop-node l = record {
  so_far : l.left + count (forest l.nodes) ≡ l.slots + count (forest (drop l.node-index l.nodes));
  no_more : l.left ≤ l.slots;
}
