use Rattle.std.proofs.Common.{arith}
use Rattle.cursor_moves.proofs.Nodes.PathSteps.{items_few}
use Rattle.cursor_moves.proofs.previous_node.last_shown.Goals as goal

pub children-requires : goal.children-requires
children-requires c = record { few = omega (arith, items_few c.args.node.now.inner, c.requires.few) }
