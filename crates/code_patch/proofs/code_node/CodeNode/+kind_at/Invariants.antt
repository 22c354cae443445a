use Rattle.std.proofs.Common.{length}
use Rattle.code_patch.proofs.code_node.CodeNode.+kind_at.Given as goal

abbrev pub decreases-kind_at : goal.decreases-kind_at
decreases-kind_at g l = length l.way.now
