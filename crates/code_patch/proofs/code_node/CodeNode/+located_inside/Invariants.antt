use Rattle.std.specs.Prelude.{◌-◌, ◌≤◌, length}
use Rattle.code_patch.specs.CodeForest.{code_nodes}
use Rattle.code_patch.specs.Private.Weight.{weight}
use Rattle.code_patch.proofs.LocatedNodes.{Left}
use Rattle.code_patch.proofs.code_node.CodeNode.+located_inside.Given as goal

abbrev pub decreases-located_inside : goal.decreases-located_inside
decreases-located_inside g l = weight l.self.now

abbrev pub decreases-loop-k : goal.decreases-loop-k
decreases-loop-k g l = length (code_nodes l.self.inner) - l.k

abbrev pub invariant-loop-k : goal.invariant-loop-k
invariant-loop-k g l = record {
  left : Left l.slot.0 0 l.self l.k;
  within : l.k ≤ length (code_nodes l.self.inner);
}
