use Rattle.plcs_code.proofs.OnlySteps.{steps_have_addresses}
use Rattle.plcs_code.proofs.code_laws.steps_have_addresses.Goals as goal

pub returns : goal.returns
returns c = steps_have_addresses
