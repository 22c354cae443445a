use Rattle.std.specs.Prelude.{◌-◌, length}
use Rattle.code_patch.specs.CodeForest.{code_nodes}
use Rattle.code_patch.specs.Private.Weight.{weight}
use Rattle.code_patch.proofs.homes.+enter_inside.Given as goal

abbrev pub decreases-enter_inside : goal.decreases-enter_inside
decreases-enter_inside g l = weight l.node.now

abbrev pub decreases-loop-child : goal.decreases-loop-child
decreases-loop-child g l = length (code_nodes l.node.inner) - l.k
