use Rattle.program_cases.proofs.FollowedEdits.{verdicts_before}
use Rattle.program_cases.proofs.rechecking.Checks.prepared.Goals as goal

pub prepare-requires-clause-before : goal.prepare-requires-clause-before
prepare-requires-clause-before c = (c.requires.before.0, c.requires.before.1)

pub prepare-requires-in-Ok-clause-before : goal.prepare-requires-in-Ok-clause-before
prepare-requires-in-Ok-clause-before c =
    let was = c.requires.before in
    verdicts_before c.tables_ignore_room_and_elision.ensures.table c.args.self.now.decls c.prepare.new.self
    c.args.self.now.marks.verdicts was.0 c.args.tree.now c.args.change.now c.in-Ok.decls c.prepare.ensures.same was.1 was.2
    (c.in-Ok.ensures.edit was.0 was.1)

pub returns-in-Ok-prepare-clause-decls : goal.returns-in-Ok-prepare-clause-decls
returns-in-Ok-prepare-clause-decls c = (c.in-Ok.ensures.edit c.requires.before.0 c.requires.before.1).decls_after
