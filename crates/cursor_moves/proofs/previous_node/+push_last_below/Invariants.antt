use Rattle.template_tree.specs.Programs.Slots.{depth}
use Rattle.cursor_moves.proofs.previous_node.+push_last_below.Given as goal

abbrev pub decreases-push_last_below : goal.decreases-push_last_below
decreases-push_last_below l = depth l.node.now.inner
