use Rattle.std.proofs.Common.{arith}
use Rattle.template_tree.proofs.Trees.Counts.{item_lighter}
use Rattle.template_tree.proofs.homes.+enter.Goals as goal

pub enter_nodes-enter_inside-requires : goal.enter_nodes-enter_inside-requires
enter_nodes-enter_inside-requires t c =
    (omega (arith, item_lighter c.args.nodes.now c.loop-node.node-index c.node-item.result c.loop-node-test.true c.node-item.is), tt)
