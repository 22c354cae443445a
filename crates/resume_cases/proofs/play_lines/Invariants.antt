use Rattle.resume_cases.specs.Private.BenchRun.{IsBench}
use Rattle.resume_cases.proofs.play_lines.Given as goal

abbrev pub invariant-loop-line : goal.invariant-loop-line
invariant-loop-line l = IsBench l.held.bench
