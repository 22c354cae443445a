use Rattle.resume_cases.specs.Private.BenchRun.{IsBench}
use Rattle.resume_cases.proofs.edits.change_all.Given as goal

abbrev pub invariant-loop-words : goal.invariant-loop-words
invariant-loop-words l = IsBench l.bench
