use Rattle.std.proofs.Common.{Option, Ok, sym, ◌∙◌}
use Rattle.std.specs.Prelude.{is_none}
use Rattle.template_tree.specs.Programs.PlainTree.{roomless_tree}
use Rattle.synth_session.specs.PlainRun.{PlainRun}
use Rattle.synth_session.specs.RunCommands.{step_outcome}
use Rattle.synth_session.specs.Private.RunReply.{DoesByRun}
use Rattle.synth_session.specs.SessionView.{plain_session}
use Rattle.synth_session.proofs.ResumedRuns.{going_counts, standing_run}
use Rattle.synth_session.proofs.session.Session.step_on.Goals as goal

pub returns-in-Some : goal.returns-in-Some
returns-in-Some g c = record {
  does = standing_run (roomless_tree c.args.self.now.program.tree).items c.args.self.now.run.undos c.args.self.now.run.run c.in-Some.reason
      (λ (held : Option PlainRun). DoesByRun (is_none held) (step_outcome (plain_session c.args.self.now) c.args.steps held) c.args.self.now c.go_on.new.self
      (g.W.Work.counts c.args.work.now) (g.W.Work.counts c.args.work.now) (Ok c.go_on.result))
      (sym c.reason.ensures ∙ c.in-Some.is)
      (λ run there.
      let by = c.go_on.ensures run there in
      record {
        reply = by.reply;
        can = by.can;
        does = record { session = by.has.session; screens = by.has.screens; met = (by.has.after, by.has.answered) };
        counts = going_counts (g.W.Work.counts c.args.work.now) (plain_session c.args.self.now) c.args.steps run by.reply c.go_on.result;
      });
}
