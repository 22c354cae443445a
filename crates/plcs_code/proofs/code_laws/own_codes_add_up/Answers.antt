use Rattle.plcs_code.proofs.OwnCodes.{own_codes_add_up, own_codes_are_told}
use Rattle.plcs_code.proofs.code_laws.own_codes_add_up.Goals as goal

pub returns-clause-slot : goal.returns-clause-slot
returns-clause-slot c = own_codes_are_told

pub returns-clause-program : goal.returns-clause-program
returns-clause-program c = own_codes_add_up
