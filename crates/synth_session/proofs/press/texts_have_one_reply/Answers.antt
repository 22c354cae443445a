use Rattle.synth_session.proofs.StandingTexts.{texts_have_one_reply}
use Rattle.synth_session.proofs.press.texts_have_one_reply.Goals as goal

pub returns : goal.returns
returns c = texts_have_one_reply c.one_standing.ensures
