use Rattle.plcs_machine.proofs.TreeBegun.{code_begins_as_tree}
use Rattle.plcs_machine.proofs.machine_laws.code_begins_as_tree.Goals as goal

pub returns : goal.returns
returns c = code_begins_as_tree c.bodies_begin.ensures.first
