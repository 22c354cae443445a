use Rattle.std.specs.Prelude.{◌-◌, ◌≤◌, length}
use Rattle.code_patch.specs.CodeForest.{code_nodes}
use Rattle.code_patch.specs.Private.Weight.{weight}
use Rattle.code_patch.proofs.SoughtSlots.{Sought}
use Rattle.code_patch.proofs.code_node.CodeNode.+path_inside.Given as goal

abbrev pub decreases-path_inside : goal.decreases-path_inside
decreases-path_inside g l = weight l.self.now

abbrev pub decreases-loop-child : goal.decreases-loop-child
decreases-loop-child g l = length (code_nodes l.self.inner) - l.k

abbrev pub invariant-loop-child : goal.invariant-loop-child
invariant-loop-child g l = record {
  sought : Sought l.slot.0 l.self l.k;
  within : l.k ≤ length (code_nodes l.self.inner);
}
