use Rattle.std.proofs.Common.{ℕ, Option, sym, subst, ◌∙◌}
use Rattle.template_tree.specs.Programs.PlainTree.{roomless_tree}
use Rattle.synth_session.specs.PlainRun.{PlainRun}
use Rattle.synth_session.specs.RunCommands.{going_outcome, resume_outcome}
use Rattle.synth_session.specs.Private.RunReply.{HasOutcomeByReply}
use Rattle.synth_session.specs.SessionView.{plain_session}
use Rattle.synth_session.proofs.ResumedRuns.{standing_run}
use Rattle.synth_session.proofs.session.Session.resume.Goals as goal

pub returns-in-Some : goal.returns-in-Some
returns-in-Some g c =
    standing_run (roomless_tree c.args.self.now.program.tree).items c.args.self.now.run.undos c.args.self.now.run.run c.in-Some.reason
    (λ (held : Option PlainRun). HasOutcomeByReply (resume_outcome (plain_session c.args.self.now) held) c.args.self.now c.go_on.new.self c.go_on.result)
    (sym c.reason.ensures ∙ c.in-Some.is)
    (λ run there.
    let by = subst (λ (n : ℕ). HasOutcomeByReply (going_outcome (plain_session c.args.self.now) n run) c.args.self.now c.go_on.new.self c.go_on.result)
    c.most_steps-steps.ensures (c.go_on.ensures run there) in
    record { reply = by.reply; can = by.can; has = by.has })
