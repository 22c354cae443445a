-- What comes of a key that asks something of the files, and counts nothing.
use Rattle.std.specs.Prelude.{Bool, Result}
use Rattle.plcs_base.specs.declared.memory.OutOfMemory.{OutOfMemory}
use Rattle.synth_outside.specs.Files.{PlainFiles}
use Rattle.synth_session.specs.declared.answer.Answer.{Answer}
use Rattle.synth_session.specs.declared.session.Session.{Session}
use Rattle.synth_session.specs.KeyReply.{FilesDo, Reply, Request}
use Rattle.synth_session.specs.KeyOutcome.{KeyOutcome}
use Rattle.synth_session.specs.SessionView.{Does}

-- a key that asked this of the files did this, by what they replied, as far as memory allows
pub record DoesUncounted {W : Type 0} (may_take_memory : Bool) (request : Request) (outcome : Reply → KeyOutcome)
    (before now : Session W) (files_before files_now : PlainFiles) (result : Result Answer OutOfMemory) : Type 0 where
  pub reply : Reply
  pub files : FilesDo request reply files_before files_now result
  pub does : Does may_take_memory (outcome reply) before now result
