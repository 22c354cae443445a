use Rattle.std.proofs.Common.{length}
use Rattle.template_tree.proofs.sections_left.+sections_from.Given as goal

abbrev pub decreases-sections_from : goal.decreases-sections_from
decreases-sections_from l = length l.sections.now
