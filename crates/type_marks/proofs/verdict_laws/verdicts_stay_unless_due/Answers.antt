use Rattle.type_marks.proofs.UndueVerdicts.{undue_verdicts_stay}
use Rattle.type_marks.proofs.verdict_laws.verdicts_stay_unless_due.Goals as goal

pub returns : goal.returns
returns c = undue_verdicts_stay c.checks_ignore_room_and_elision.ensures.room
