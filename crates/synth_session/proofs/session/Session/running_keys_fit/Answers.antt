use Rattle.template_tree.specs.Programs.PlainTree.{roomless_tree}
use Rattle.synth_session.specs.SessionView.{plain_session}
use Rattle.synth_session.proofs.FittingKeys.{held_goes, running_keys_fit}
use Rattle.synth_session.proofs.session.Session.running_keys_fit.Goals as goal

pub returns : goal.returns
returns g c =
    let now = c.args.self.now in
    running_keys_fit c.new_runs_fit.ensures c.resumed_runs_fit.ensures.agreed c.fitting_runs_are_resolved.ensures (plain_session now)
    ((c.room_is_not_shown.ensures.trees now.program.tree).0 c.requires.session.agrees.tree)
    (held_goes (roomless_tree now.program.tree) (plain_session now).earlier now.run.undos now.run.run c.requires.run)
