use Rattle.template_tree.proofs.CheckedContents.{checks_ignore_all_elision, checks_ignore_elision, checks_ignore_room}
use Rattle.template_tree.proofs.check_laws.checks_ignore_room_and_elision.Goals as goal

pub returns-clause-room : goal.returns-clause-room
returns-clause-room c = checks_ignore_room

pub returns-clause-elision : goal.returns-clause-elision
returns-clause-elision c = checks_ignore_elision

pub returns-clause-all_elision : goal.returns-clause-all_elision
returns-clause-all_elision c = checks_ignore_all_elision
