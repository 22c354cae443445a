use Rattle.synth_session.proofs.NotedEdits.{none_fit}
use Rattle.synth_session.proofs.session.Session.over.Goals as goal

pub accept-requires-clause-edits : goal.accept-requires-clause-edits
accept-requires-clause-edits g c = none_fit c.args.blank.edits _ c.requires.edits
