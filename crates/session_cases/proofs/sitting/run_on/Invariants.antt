use Rattle.synth_session.specs.SessionView.{IsReadyForKey, plain_session}
use Rattle.synth_session.specs.Tick.{IsRunning, RunFits}
use Rattle.session_cases.proofs.sitting.run_on.Given as goal

-- each tick so far showed a step
abbrev pub invariant-loop-tick : goal.invariant-loop-tick
invariant-loop-tick l = IsReadyForKey l.session × (IsRunning (plain_session l.session) × RunFits (plain_session l.session))
