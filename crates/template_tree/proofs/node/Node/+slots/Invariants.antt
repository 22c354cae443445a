use Rattle.std.specs.Prelude.{◌≡◌, ◌+◌, drop}
use Rattle.template_tree.specs.Programs.PlainTree.{forest}
use Rattle.template_tree.specs.Programs.Slots.{count}
use Rattle.template_tree.specs.Private.Weight.{weight}
use Rattle.template_tree.proofs.node.Node.+slots.Given as goal

abbrev pub decreases-slots : goal.decreases-slots
decreases-slots l = weight l.self.now

abbrev pub invariant-loop-node : goal.invariant-loop-node
invariant-loop-node l = record {
  nodes_are : forest l.node-items ≡ l.self.inner;
  so_far : l.slots + count (forest (drop l.node-index l.node-items)) ≡ count l.self.inner + 1;
}
