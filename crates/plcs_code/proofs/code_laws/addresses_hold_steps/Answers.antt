use Rattle.plcs_code.proofs.StoodSteps.{addresses_hold_steps, calls_come_back, passed_starts_stand}
use Rattle.plcs_code.proofs.code_laws.addresses_hold_steps.Goals as goal

pub returns-clause-steps : goal.returns-clause-steps
returns-clause-steps c = addresses_hold_steps

pub returns-clause-starts : goal.returns-clause-starts
returns-clause-starts c = passed_starts_stand

pub returns-clause-calls : goal.returns-clause-calls
returns-clause-calls c = calls_come_back
