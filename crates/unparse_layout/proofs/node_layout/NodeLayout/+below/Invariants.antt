use Rattle.std.specs.Prelude.{length}
use Rattle.unparse_layout.proofs.node_layout.NodeLayout.+below.Given as goal

abbrev pub decreases-below : goal.decreases-below
decreases-below l = length l.path.now
