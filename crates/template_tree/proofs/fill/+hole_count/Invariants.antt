use Rattle.std.proofs.Common.{length}
use Rattle.template_tree.proofs.fill.+hole_count.Given as goal

abbrev pub decreases-hole_count : goal.decreases-hole_count
decreases-hole_count l = length l.sections.now
