use Rattle.resume_cases.proofs.SuspendedRuns.{entries}
use Rattle.resume_cases.proofs.resumption.answer_of.Goals as goal

pub may_resume-answer-requires-clause-entries : goal.may_resume-answer-requires-clause-entries
may_resume-answer-requires-clause-entries c = entries c.args.tree.now c.args.suspended.now c.kept_has_entries.ensures c.requires.stands
