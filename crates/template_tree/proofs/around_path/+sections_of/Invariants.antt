use Rattle.std.specs.Prelude.{length}
use Rattle.template_tree.proofs.around_path.+sections_of.Given as goal

abbrev pub decreases-sections_of : goal.decreases-sections_of
decreases-sections_of l = length l.path.now
