use Rattle.program_run.specs.Private.SteppedRun.{IsReached}
use Rattle.program_run.proofs.running.make_steps.Given as goal

-- so many steps were made
abbrev pub invariant-loop-made : goal.invariant-loop-made
invariant-loop-made g l = IsReached l.tree l.input l.made l.state (g.W.Work.counts l.fn.work) (g.W.Work.counts l.work)
