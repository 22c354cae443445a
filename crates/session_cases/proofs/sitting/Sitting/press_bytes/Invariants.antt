use Rattle.synth_session.specs.SessionView.{IsReadyForKey}
use Rattle.session_cases.proofs.sitting.Sitting.press_bytes.Given as goal

-- the session keeps its conditions
abbrev pub invariant-loop-byte : goal.invariant-loop-byte
invariant-loop-byte l = IsReadyForKey l.self.session
