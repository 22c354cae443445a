use Rattle.synth_session.specs.SessionView.{IsReadyForKey}
use Rattle.session_cases.proofs.repainting.keep_screens.Given as goal

-- the session keeps its conditions
abbrev pub invariant-loop-count : goal.invariant-loop-count
invariant-loop-count l = IsReadyForKey l.sitting.session
