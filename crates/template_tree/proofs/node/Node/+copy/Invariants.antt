use Rattle.std.specs.Prelude.{◌≡◌, take, map}
use Rattle.template_tree.specs.Programs.PlainTree.{forest, roomless_node}
use Rattle.template_tree.specs.Edits.Copy.{whole_node}
use Rattle.template_tree.specs.Private.Weight.{weight}
use Rattle.template_tree.proofs.node.Node.+copy.Given as goal

abbrev pub decreases-copy : goal.decreases-copy
decreases-copy l = weight l.self.now

abbrev pub invariant-loop-node : goal.invariant-loop-node
invariant-loop-node l = record {
  nodes_are : forest l.node-items ≡ l.self.inner;
  so_far : map roomless_node l.inner.items ≡ map (λ node. roomless_node (whole_node node)) (take l.node-index l.node-items);
}
