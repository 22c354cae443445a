use Rattle.std.specs.Prelude.{◌≤◌}
use Rattle.std.proofs.Common.{arith, subst}
use Rattle.template_tree.specs.Private.Weight.{weight, forest_weight}
use Rattle.template_tree.proofs.Trees.Counts.{left_begins, item_lighter}
use Rattle.template_tree.proofs.node.Node.+slots.Goals as goal

pub slots-slots-requires : goal.slots-slots-requires
slots-slots-requires t c =
    let lighter : weight c.node-item.result ≤ forest_weight c.args.self.now.inner =
    subst (λ inner. weight c.node-item.result ≤ forest_weight inner) c.loop-node.invariant.nodes_are
    (item_lighter c.as_slice-node-items.result.now c.loop-node.node-index c.node-item.result c.loop-node-test.true c.node-item.is)
    in
    let begins = left_begins c.as_slice-node-items.result.now c.loop-node.node-index c.node-item.result c.loop-node-test.true c.node-item.is in
    (omega (arith, lighter, c.decreases), omega (arith, begins, c.loop-node.invariant.so_far, c.requires.few))
