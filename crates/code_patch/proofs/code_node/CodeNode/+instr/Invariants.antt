use Rattle.std.specs.Prelude.{◌+◌, ◌*◌}
use Rattle.code_patch.specs.Private.Weight.{weight}
use Rattle.code_patch.proofs.code_node.CodeNode.+instr.Given as goal

abbrev pub decreases-instr : goal.decreases-instr
decreases-instr g l = 3 * weight l.self.now + 2

abbrev pub decreases-instr_inside : goal.decreases-instr_inside
decreases-instr_inside g l = 3 * weight l.self.now + 1

abbrev pub decreases-instr_of_child : goal.decreases-instr_of_child
decreases-instr_of_child g l = 3 * weight l.self.now
