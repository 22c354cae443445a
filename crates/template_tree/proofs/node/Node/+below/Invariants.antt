use Rattle.std.proofs.Common.{length}
use Rattle.template_tree.proofs.node.Node.+below.Given as goal

abbrev pub decreases-below : goal.decreases-below
decreases-below l = length l.path.now
