use Rattle.std.specs.Prelude.{length}
use Rattle.decl_table.proofs.name_node.NameNode.+mend_at.Given as goal

abbrev pub decreases-mend_at : goal.decreases-mend_at
decreases-mend_at l = length l.path.now
