use Rattle.code_patch.proofs.ToldCode.{kept_of_program, kept_told}
use Rattle.code_patch.proofs.kept_code_laws.kept_code_is_told.Goals as goal

pub returns-clause-kept : goal.returns-clause-kept
returns-clause-kept c = kept_told c.lengths_are_told.ensures.own c.lengths_are_told.ensures.told

pub returns-clause-program : goal.returns-clause-program
returns-clause-program c = kept_of_program c.programs_have_one_code.ensures.items
