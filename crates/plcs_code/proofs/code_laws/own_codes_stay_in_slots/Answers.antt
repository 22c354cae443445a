use Rattle.plcs_code.proofs.SlotSteps.{jumps_are_few, own_steps_end_in_slot}
use Rattle.plcs_code.proofs.code_laws.own_codes_stay_in_slots.Goals as goal

pub returns-clause-steps : goal.returns-clause-steps
returns-clause-steps c = own_steps_end_in_slot

pub returns-clause-jumps : goal.returns-clause-jumps
returns-clause-jumps c = jumps_are_few
