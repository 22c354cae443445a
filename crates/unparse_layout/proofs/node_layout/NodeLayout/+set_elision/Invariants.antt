use Rattle.std.specs.Prelude.{length}
use Rattle.unparse_layout.proofs.node_layout.NodeLayout.+set_elision.Given as goal

abbrev pub decreases-set_elision : goal.decreases-set_elision
decreases-set_elision l = length l.path.now
