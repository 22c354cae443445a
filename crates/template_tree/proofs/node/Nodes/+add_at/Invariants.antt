use Rattle.std.specs.Prelude.{length}
use Rattle.template_tree.proofs.node.Nodes.+add_at.Given as goal

abbrev pub decreases-add_at : goal.decreases-add_at
decreases-add_at l = length l.path.now
