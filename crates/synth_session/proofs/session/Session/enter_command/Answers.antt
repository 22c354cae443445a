use Rattle.std.proofs.Common.{Bool, Ok, ap, sym, subst, rules, ◌≡◌, ◌∙◌, refl}
use Rattle.session_words.specs.declared.command.Command.{Command}
use Rattle.session_words.specs.CommandLine.{command_of}
use Rattle.session_words.specs.PlainCommand.{PlainCommand, PlainReading, plain_command}
use Rattle.synth_session.specs.KeyOutcome.{KeyOutcome}
use Rattle.synth_session.specs.KeyReply.{FilesDo, Reply, Request}
use Rattle.synth_session.specs.KeyRequest.{command_request}
use Rattle.synth_session.specs.SessionView.{DoesByReply, plain_session}
use Rattle.synth_session.proofs.ResumedRuns.{resumed_counts}
use Rattle.synth_session.proofs.UnaskedKeys.{by_reading, nothing_files, run_files}
use Rattle.synth_session.proofs.session.Session.enter_command.Goals as goal

-- What a line is read as decides: each command that may touch the run does what its own call says by that reading, and
-- asks nothing of files but what its request names; every other asks nothing, so the files stay as they are.

pub returns-in-Ok-Step : goal.returns-in-Ok-Step
returns-in-Ok-Step g c =
    let s = plain_session c.args.self.now in
    let files = g.F.Files.told c.args.files.now in
    let by = c.step_on.ensures.does in
    record {
      does = by_reading s (Ok (PlainCommand.step c.in-Ok-Step.steps))
          (ap (λ (k : Command). let r : PlainReading = Ok (plain_command k) in r) (sym c.in-Ok-Step.field-0-is) ∙ c.in-Ok-Step.ensures.command
          ∙ ap command_of c.requires.line)
          (λ (takes : Bool) (asks : Request) (outcome : Reply → KeyOutcome). DoesByReply takes asks outcome c.args.self.now c.step_on.new.self files files
          (g.W.Work.counts c.args.work.now) (g.W.Work.counts c.step_on.new.work) c.step_on.result)
          (record { reply = by.reply; files = run_files s.tree s.run by.reply files c.step_on.result by.can; does = by.does; counts = by.counts });
    }

pub returns-in-Ok-Resume : goal.returns-in-Ok-Resume
returns-in-Ok-Resume g c =
    let s = plain_session c.args.self.now in
    let files = g.F.Files.told c.args.files.now in
    let counts = g.W.Work.counts c.args.work.now in
    let by = c.resume.ensures in
    record {
      does = by_reading s (Ok PlainCommand.resume)
          (ap (λ (k : Command). let r : PlainReading = Ok (plain_command k) in r) (sym c.in-Ok-Resume.field-0-is) ∙ c.in-Ok-Resume.ensures.command
          ∙ ap command_of c.requires.line)
          (λ (takes : Bool) (asks : Request) (outcome : Reply → KeyOutcome). DoesByReply takes asks outcome c.args.self.now c.resume.new.self files files
          counts counts (Ok c.resume.result))
          (record {
            reply = by.reply;
            files = run_files s.tree s.run by.reply files (Ok c.resume.result) by.can;
            does = record { session = by.has.session; screens = by.has.screens; met = (by.has.after, by.has.answered) };
            counts = resumed_counts counts s s.run by.reply c.resume.result;
          });
    }

pub returns-in-Ok : goal.returns-in-Ok
returns-in-Ok g c =
    let s = plain_session c.args.self.now in
    let files = g.F.Files.told c.args.files.now in
    let unasked : command_request s (plain_command c.in-Ok.command) ≡ Request.Nothing = search rules in
    record {
      does = by_reading s (Ok (plain_command c.in-Ok.command)) (c.in-Ok.ensures.command ∙ ap command_of c.requires.line)
          (λ (takes : Bool) (asks : Request) (outcome : Reply → KeyOutcome). DoesByReply takes asks outcome c.args.self.now c.obey-answer.new.self files files
          (g.W.Work.counts c.args.work.now) (g.W.Work.counts c.obey-answer.new.work) c.obey-answer.result)
          (record {
            reply = Reply.NotAsked;
            files = subst (λ (asks : Request). FilesDo asks Reply.NotAsked files files c.obey-answer.result) (sym unasked)
                (nothing_files Reply.NotAsked files c.obey-answer.result refl);
            does = c.obey-answer.ensures.does;
            counts = c.obey-answer.ensures.counts;
          });
    }
