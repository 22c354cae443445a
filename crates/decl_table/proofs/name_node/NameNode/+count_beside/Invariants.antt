use Rattle.std.specs.Prelude.{length}
use Rattle.decl_table.proofs.name_node.NameNode.+count_beside.Given as goal

abbrev pub decreases-count_beside : goal.decreases-count_beside
decreases-count_beside l = length l.path.now
