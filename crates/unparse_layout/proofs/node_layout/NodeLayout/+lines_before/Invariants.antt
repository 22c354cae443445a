use Rattle.std.specs.Prelude.{length}
use Rattle.unparse_layout.proofs.node_layout.NodeLayout.+lines_before.Given as goal

abbrev pub decreases-lines_before : goal.decreases-lines_before
decreases-lines_before l = length l.rest.now
