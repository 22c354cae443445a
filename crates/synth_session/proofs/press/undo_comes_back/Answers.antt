use Rattle.synth_session.proofs.UndoneSessions.{edits_are_kept, undo_comes_back}
use Rattle.synth_session.proofs.press.undo_comes_back.Goals as goal

pub returns-clause-back : goal.returns-clause-back
returns-clause-back c =
    undo_comes_back c.undone_trees_check_alike.ensures c.checks_ignore_room_and_elision.ensures.all_elision
    c.programs_have_one_code.ensures.all_elision c.answers_follow_frames.ensures.same c.answers_ignore_room_and_elision.ensures.same

pub returns-clause-kept : goal.returns-clause-kept
returns-clause-kept c = edits_are_kept
