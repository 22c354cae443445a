-- What comes of a key that takes no memory.
use Rattle.std.specs.Prelude.{◌≡◌}
use Rattle.synth_session.specs.declared.answer.Answer.{Answer}
use Rattle.synth_session.specs.declared.session.Session.{Session}
use Rattle.synth_session.specs.KeyOutcome.{KeyOutcome}
use Rattle.synth_session.specs.SessionView.{IsReadyForKey, plain_session}

-- a key that takes no memory came to this; the session keeps its conditions, and its screens stay
pub record HasOutcome {W : Type 0} (outcome : KeyOutcome) (before now : Session W) (answer : Answer) : Type 0 where
  pub session : IsReadyForKey now
  pub screens : now.screens ≡ before.screens
  pub after : plain_session now ≡ outcome.after
  pub answered : answer ≡ outcome.answer
