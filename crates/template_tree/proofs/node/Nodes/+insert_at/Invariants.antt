use Rattle.std.specs.Prelude.{length}
use Rattle.template_tree.proofs.node.Nodes.+insert_at.Given as goal

abbrev pub decreases-insert_at : goal.decreases-insert_at
decreases-insert_at l = length l.path.now
