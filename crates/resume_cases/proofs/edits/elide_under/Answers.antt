use Rattle.resume_cases.proofs.SuspendedRuns.{edit_stands, still_ready, turned}
use Rattle.resume_cases.proofs.edits.elide_under.Goals as goal

pub returns-clause-stands : goal.returns-clause-stands
returns-clause-stands c =
    edit_stands c.args.tree.now c.elide.new.self _ c.edits_follow.ensures.follow c.elide.ensures.tree
    (turned c.args.tree.now c.elide.new.self c.args.at.now.items c.edits_follow.ensures.turns c.elide.ensures.changed)
    c.in_ok-keep_program.ensures.kept c.clear.ensures
    (still_ready c.args.tree.now c.args.suspended.now c.keep_program.new.suspended c.requires.stands c.in_ok-keep_program.ensures.same)
