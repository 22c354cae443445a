use Rattle.resume_rule.proofs.AlikePrograms.{answers_ignore_elision, answers_ignore_room, substance_has_same}
use Rattle.resume_rule.proofs.resume_laws.answers_ignore_room_and_elision.Goals as goal

pub returns : goal.returns
returns c =
    record {
      same = substance_has_same c.runs_ignore_room_and_elision.ensures.kept;
      room = answers_ignore_room c.runs_ignore_room_and_elision.ensures.room;
      elision = answers_ignore_elision c.runs_ignore_room_and_elision.ensures.elision;
    }
