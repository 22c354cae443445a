use Rattle.std.specs.Prelude.{length}
use Rattle.code_patch.proofs.code_node.CodeNode.+located_by.Given as goal

abbrev pub decreases-located_by : goal.decreases-located_by
decreases-located_by g l = length l.way.now
