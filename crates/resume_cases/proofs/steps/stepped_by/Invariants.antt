use Rattle.std.specs.Prelude.{◌≡◌, None}
use Rattle.resume_cases.specs.Private.BenchRun.{SuspendedIn}
use Rattle.resume_cases.proofs.steps.stepped_by.Given as goal

abbrev pub invariant-loop-made : goal.invariant-loop-made
invariant-loop-made l = record {
  stands : SuspendedIn l.tree l.suspended;
  unedited : l.suspended.run.kept ≡ None;
}
