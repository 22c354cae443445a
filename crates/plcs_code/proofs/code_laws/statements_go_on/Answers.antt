use Rattle.plcs_code.proofs.LandedEnds.{statements_go_on}
use Rattle.plcs_code.proofs.code_laws.statements_go_on.Goals as goal

pub returns : goal.returns
returns c = statements_go_on
