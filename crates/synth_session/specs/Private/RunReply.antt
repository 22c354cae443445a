-- What comes of a key by which a run that stands is to go on, by whether it may.
use Rattle.std.specs.Prelude.{Bool, None, Result}
use Rattle.plcs_base.specs.PlainCounts.{PlainCounts}
use Rattle.plcs_base.specs.declared.memory.OutOfMemory.{OutOfMemory}
use Rattle.synth_session.specs.declared.answer.Answer.{Answer}
use Rattle.synth_session.specs.declared.session.Session.{Session}
use Rattle.synth_session.specs.KeyOutcome.{KeyOutcome}
use Rattle.synth_session.specs.KeyReply.{CanReply, Reply}
use Rattle.synth_session.specs.KeyRequest.{run_request}
use Rattle.synth_session.specs.PlainSession.{PlainSession}
use Rattle.synth_session.specs.Private.MemorylessKey.{HasOutcome}
use Rattle.synth_session.specs.SessionView.{CountsOutcome, Does, plain_session}

-- to a key by which the run of this session, if one stands, is to go on, this can be replied; the files play no part in
-- it
abbrev pub CanReplyForRun : PlainSession → Reply → Type 0
CanReplyForRun s reply = CanReply None (run_request s.tree s.run) reply

-- a key that takes no memory and by which the run is to go on came to this, by what can be replied to it
pub record HasOutcomeByReply {W : Type 0} (outcome : Reply → KeyOutcome) (before now : Session W)
    (answer : Answer) : Type 0 where
  pub reply : Reply
  pub can : CanReplyForRun (plain_session before) reply
  pub has : HasOutcome (outcome reply) before now answer

-- a key by which the run is to go on, or a new one begins, did this, by what can be replied to it
pub record DoesByRun {W : Type 0} (may_take_memory : Bool) (outcome : Reply → KeyOutcome) (before now : Session W)
    (counts_before counts_now : PlainCounts) (result : Result Answer OutOfMemory) : Type 0 where
  pub reply : Reply
  pub can : CanReplyForRun (plain_session before) reply
  pub does : Does may_take_memory (outcome reply) before now result
  pub counts : CountsOutcome (outcome reply) counts_before counts_now result
