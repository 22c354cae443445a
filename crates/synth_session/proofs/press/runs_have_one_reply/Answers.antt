use Rattle.synth_session.proofs.OneResumption.{runs_have_one_reply}
use Rattle.synth_session.proofs.press.runs_have_one_reply.Goals as goal

pub returns : goal.returns
returns c = runs_have_one_reply
