use Rattle.plcs_code.proofs.ProgramCodes.{code_is_of_program, program_code_ignores_all_elision, program_code_ignores_elision, program_code_ignores_room, program_items_tell}
use Rattle.plcs_code.proofs.code_laws.programs_have_one_code.Goals as goal

pub returns-clause-items : goal.returns-clause-items
returns-clause-items c = program_items_tell

pub returns-clause-made : goal.returns-clause-made
returns-clause-made c = code_is_of_program

pub returns-clause-room : goal.returns-clause-room
returns-clause-room c = program_code_ignores_room c.checks_ignore_room_and_elision.ensures.room

pub returns-clause-elision : goal.returns-clause-elision
returns-clause-elision c = program_code_ignores_elision c.checks_ignore_room_and_elision.ensures.elision

pub returns-clause-all_elision : goal.returns-clause-all_elision
returns-clause-all_elision c = program_code_ignores_all_elision c.checks_ignore_room_and_elision.ensures.all_elision
