use Rattle.std.specs.Prelude.{◌≤◌, drop}
use Rattle.template_tree.specs.Programs.PlainTree.{forest}
use Rattle.template_tree.specs.Programs.Slots.{depth}
use Rattle.template_tree.proofs.limit_reached.+is_within_depth.Given as goal

abbrev pub decreases-is_within_depth : goal.decreases-is_within_depth
decreases-is_within_depth l = l.most

abbrev pub invariant-loop-node : goal.invariant-loop-node
invariant-loop-node l = record {
  within : depth (forest (drop l.node-index l.nodes)) ≤ l.most → depth (forest l.nodes) ≤ l.most;
  no_deeper : depth (forest (drop l.node-index l.nodes)) ≤ depth (forest l.nodes);
}
