use Rattle.std.proofs.Common.{length}
use Rattle.template_tree.proofs.fill.+push_holes.Given as goal

abbrev pub decreases-push_holes : goal.decreases-push_holes
decreases-push_holes l = length l.sections.now
