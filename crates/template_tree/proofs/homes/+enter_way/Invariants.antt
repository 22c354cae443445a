use Rattle.std.specs.Prelude.{length}
use Rattle.template_tree.proofs.homes.+enter_way.Given as goal

abbrev pub decreases-enter_way : goal.decreases-enter_way
decreases-enter_way l = length l.path.now
