use Rattle.std.specs.Prelude.{length}
use Rattle.template_tree.proofs.node.Nodes.+remove_at.Given as goal

abbrev pub decreases-remove_at : goal.decreases-remove_at
decreases-remove_at l = length l.path.now
