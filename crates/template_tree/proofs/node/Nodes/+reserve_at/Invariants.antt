use Rattle.std.specs.Prelude.{length}
use Rattle.template_tree.proofs.node.Nodes.+reserve_at.Given as goal

abbrev pub decreases-reserve_at : goal.decreases-reserve_at
decreases-reserve_at l = length l.path.now
