use Rattle.code_patch.proofs.RoomlessBills.{bills_ignore_room}
use Rattle.code_patch.proofs.TurnedCode.{kept_ignores_elision, kept_ignores_room}
use Rattle.code_patch.proofs.kept_code_laws.kept_code_ignores_room_and_elision.Goals as goal

pub returns-clause-room : goal.returns-clause-room
returns-clause-room c = kept_ignores_room c.checks_ignore_room_and_elision.ensures.room c.programs_have_one_code.ensures.items

pub returns-clause-elision : goal.returns-clause-elision
returns-clause-elision c =
    kept_ignores_elision c.checks_ignore_room_and_elision.ensures.elision c.programs_have_one_code.ensures.items

pub returns-clause-bills : goal.returns-clause-bills
returns-clause-bills c = bills_ignore_room c.checks_ignore_room_and_elision.ensures.room c.programs_have_one_code.ensures.items
