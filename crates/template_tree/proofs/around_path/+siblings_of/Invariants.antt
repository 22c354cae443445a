use Rattle.std.specs.Prelude.{length}
use Rattle.template_tree.proofs.around_path.+siblings_of.Given as goal

abbrev pub decreases-siblings_of : goal.decreases-siblings_of
decreases-siblings_of l = length l.path.now
