use Rattle.std.proofs.Common.{length}
use Rattle.code_patch.proofs.code_node.CodeNode.+slot_at.Given as goal

abbrev pub decreases-slot_at : goal.decreases-slot_at
decreases-slot_at g l = length l.way.now
