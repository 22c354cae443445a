use Rattle.std.proofs.Common.{rules}
use Rattle.synth_session.specs.KeyReply.{Reply}
use Rattle.synth_session.proofs.FileReplies.{refused_save, wanting_save}
use Rattle.synth_session.proofs.session.Session.save.Goals as goal

pub returns-in-OutOfMemory : goal.returns-in-OutOfMemory
returns-in-OutOfMemory g c = record {
  reply = Reply.Saved;
  files = wanting_save _ _ _ c.in-Err.refusal _ _ c.in-Err.ensures c.in-OutOfMemory.is;
  does = search rules;
}

pub returns-in_default : goal.returns-in_default
returns-in_default g c = record {
  reply = Reply.Refused c.in-Err.refusal;
  files = refused_save _ _ _ c.in-Err.refusal _ _ c.in-Err.ensures c.in_default.not-OutOfMemory;
  does = search rules;
}
