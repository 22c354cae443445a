use Rattle.run_cases.specs.RunOfProgram.{StandsByCode}
use Rattle.run_cases.proofs.run.make_steps.Given as goal

-- the run stands by the code
abbrev pub invariant-loop-made : goal.invariant-loop-made
invariant-loop-made l = StandsByCode l.code l.run.state
