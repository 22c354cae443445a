use Rattle.resume_cases.proofs.SuspendedRuns.{edit_stands, refused_stands, still_ready}
use Rattle.resume_cases.proofs.edits.make_first.Goals as goal

pub returns-in-Ok-clause-stands : goal.returns-in-Ok-clause-stands
returns-in-Ok-clause-stands c =
    edit_stands c.args.tree.now c.make_alone.new.tree _ c.edits_follow.ensures.follow c.in-Ok.ensures.tree c.in-Ok.ensures.came
    c.in-Some.ensures.kept c.clear.ensures
    (still_ready c.args.tree.now c.args.suspended.now c.keep_program.new.suspended c.requires.stands c.in-Some.ensures.same)

pub returns-in-Err-clause-stands : goal.returns-in-Err-clause-stands
returns-in-Err-clause-stands c =
    refused_stands c.args.tree.now c.make_alone.new.tree c.args.suspended.now _ c.requires.stands c.requires.unedited c.replace.ensures.after
    c.in-Err.ensures.refused c.in-Some.ensures.same.state c.in-Some.ensures.same.history
