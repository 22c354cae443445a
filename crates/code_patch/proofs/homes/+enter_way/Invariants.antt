use Rattle.std.specs.Prelude.{length}
use Rattle.code_patch.proofs.homes.+enter_way.Given as goal

abbrev pub decreases-enter_way : goal.decreases-enter_way
decreases-enter_way g l = length l.way.now
