use Rattle.std.proofs.Common.{length}
use Rattle.code_patch.proofs.code_node.CodeNode.+reserve_at.Given as goal

abbrev pub decreases-reserve_at : goal.decreases-reserve_at
decreases-reserve_at g l = length l.way.now
