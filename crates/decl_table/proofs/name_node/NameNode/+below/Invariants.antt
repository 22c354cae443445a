use Rattle.std.specs.Prelude.{length}
use Rattle.decl_table.proofs.name_node.NameNode.+below.Given as goal

abbrev pub decreases-below : goal.decreases-below
decreases-below l = length l.path.now
