use Rattle.synth_session.proofs.CheckedPhrases.{checks_phrases}
use Rattle.synth_session.proofs.program.checked.Goals as goal

pub returns-in-Err-new-clause-counts : goal.returns-in-Err-new-clause-counts
returns-in-Err-new-clause-counts g c = checks_phrases c.args.tree.now _ _ c.new-in-Ok.ensures.counts

pub returns-in-Ok-new-clause-counts : goal.returns-in-Ok-new-clause-counts
returns-in-Ok-new-clause-counts g c = checks_phrases c.args.tree.now _ _ c.new-in-Ok.ensures.counts
