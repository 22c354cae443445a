use Rattle.resume_rule.proofs.ResolvedRuns.{fitting_runs_are_resolved}
use Rattle.resume_rule.proofs.resume_laws.fitting_runs_are_resolved.Goals as goal

pub returns : goal.returns
returns c = fitting_runs_are_resolved
