use Rattle.std.proofs.Common.{◌≡◌, ◌+◌, drop}
use Rattle.template_tree.specs.Programs.PlainTree.{forest}
use Rattle.template_tree.specs.Programs.Slots.{times}
use Rattle.template_tree.specs.Private.Weight.{forest_weight, weight}
use Rattle.template_tree.proofs.path_of.+find.Given as goal

abbrev pub decreases-path_in : goal.decreases-path_in
decreases-path_in l = forest_weight (forest l.nodes.now) + 1

abbrev pub decreases-path_below : goal.decreases-path_below
decreases-path_below l = weight l.node.now

abbrev pub invariant-path_in-loop-node : goal.invariant-path_in-loop-node
invariant-path_in-loop-node l = record {
  number : l.k ≡ l.node-index;
  left : times l.fn.slot.0 (forest l.fn.nodes) ≡ times l.fn.slot.0 (forest (drop l.node-index l.nodes));
}
