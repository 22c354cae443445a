use Rattle.std.specs.Prelude.{length}
use Rattle.unparse_layout.proofs.node_layout.NodeLayout.+count_beside.Given as goal

abbrev pub decreases-count_beside : goal.decreases-count_beside
decreases-count_beside l = length l.path.now
