use Rattle.resume_cases.specs.Private.BenchRun.{SuspendedIn}
use Rattle.resume_cases.proofs.steps.stepped_back.Given as goal

abbrev pub invariant-loop-back : goal.invariant-loop-back
invariant-loop-back l = SuspendedIn l.tree l.suspended
