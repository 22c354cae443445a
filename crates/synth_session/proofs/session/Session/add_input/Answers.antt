use Rattle.template_tree.specs.Programs.PlainTree.{roomless_tree}
use Rattle.synth_session.specs.SessionView.{plain_session}
use Rattle.synth_session.proofs.FittingRuns.{forgotten_held}
use Rattle.synth_session.proofs.session.Session.add_input.Goals as goal

pub accept_line-requires-clause-run : goal.accept_line-requires-clause-run
accept_line-requires-clause-run g c =
    forgotten_held (roomless_tree c.args.self.now.program.tree) (plain_session c.args.self.now).earlier c.args.self.now.run.undos c.forget.new.self.undos
    c.args.self.now.run.run c.forget.new.self.run c.forget.ensures.run c.forget.ensures.undos c.requires.run
