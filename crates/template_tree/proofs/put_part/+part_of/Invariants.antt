use Rattle.std.proofs.Common.{length}
use Rattle.template_tree.proofs.put_part.+part_of.Given as goal

abbrev pub decreases-part_of : goal.decreases-part_of
decreases-part_of l = length l.line.now
