use Rattle.plcs_code.proofs.StayingJumps.{jumps_stay_in_nodes, jumps_stay_inside}
use Rattle.plcs_code.proofs.code_laws.jumps_stay_inside.Goals as goal

pub returns-clause-program : goal.returns-clause-program
returns-clause-program c = jumps_stay_inside

pub returns-clause-nodes : goal.returns-clause-nodes
returns-clause-nodes c = jumps_stay_in_nodes
