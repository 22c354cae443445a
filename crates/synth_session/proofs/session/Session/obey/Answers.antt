use Rattle.std.proofs.Common.{false, Ok, refl, subst}
use Rattle.cursor_moves.specs.Move.{first_stop, last_stop}
use Rattle.session_words.specs.declared.command.Command.{Command}
use Rattle.template_tree.specs.Positions.Stop.{PlainStop}
use Rattle.synth_session.specs.declared.answer.Answer.{Answer}
use Rattle.synth_session.specs.declared.answer.Refusal.TheVariants as why
use Rattle.synth_session.specs.ClipCommands.{copied_to_clip}
use Rattle.synth_session.specs.CodeCommand.{code_outcome}
use Rattle.synth_session.specs.ElideCommand.{comment_toggled}
use Rattle.synth_session.specs.EnteredLine.{quit_outcome}
use Rattle.synth_session.specs.KeyOutcome.{line_acceptance_outcome, refusal_outcome}
use Rattle.synth_session.specs.RunCommands.{back_outcome, input_outcome, trace_outcome}
use Rattle.synth_session.specs.Private.MemorylessKey.{HasOutcome}
use Rattle.synth_session.specs.SessionView.{plain_session}
use Rattle.synth_session.proofs.ObeyedCommands.{code_free, counts_so, does_so, elided_free, input_free, still_does}
use Rattle.synth_session.proofs.UnaskedKeys.{asks_never, back_free, copied_free, counted_free}
use Rattle.synth_session.proofs.session.Session.obey.Goals as goal

pub unreachable-requires : goal.unreachable-requires
unreachable-requires g c = asks_never (plain_session c.args.self.now) c.args.command.now c.requires.unasked c.in-Save.is

pub returns-in-Template : goal.returns-in-Template
returns-in-Template g c =
    let s = plain_session c.args.self.now in
    let before = g.W.Work.counts c.args.work.now in
    record {
      does = does_so s c.args.command.now (Command.Template c.in-Template.template) c.in-Template.is c.args.self.now c.edit.new.self c.edit.result c.edit.ensures.does;
      counts =
          counts_so s c.args.command.now (Command.Template c.in-Template.template) c.in-Template.is before (g.W.Work.counts c.edit.new.work) c.edit.result c.edit.ensures.counts;
    }

pub returns-in-Before : goal.returns-in-Before
returns-in-Before g c =
    let s = plain_session c.args.self.now in
    let before = g.W.Work.counts c.args.work.now in
    record {
      does = does_so s c.args.command.now Command.Before c.in-Before.is c.args.self.now c.edit-in-Before.new.self c.edit-in-Before.result c.edit-in-Before.ensures.does;
      counts =
          counts_so s c.args.command.now Command.Before c.in-Before.is before (g.W.Work.counts c.edit-in-Before.new.work) c.edit-in-Before.result c.edit-in-Before.ensures.counts;
    }

pub returns-in-After : goal.returns-in-After
returns-in-After g c =
    let s = plain_session c.args.self.now in
    let before = g.W.Work.counts c.args.work.now in
    record {
      does = does_so s c.args.command.now Command.After c.in-After.is c.args.self.now c.edit-in-After.new.self c.edit-in-After.result c.edit-in-After.ensures.does;
      counts =
          counts_so s c.args.command.now Command.After c.in-After.is before (g.W.Work.counts c.edit-in-After.new.work) c.edit-in-After.result c.edit-in-After.ensures.counts;
    }

pub returns-in-Del : goal.returns-in-Del
returns-in-Del g c =
    let s = plain_session c.args.self.now in
    let before = g.W.Work.counts c.args.work.now in
    record {
      does = does_so s c.args.command.now Command.Del c.in-Del.is c.args.self.now c.edit-in-Del.new.self c.edit-in-Del.result c.edit-in-Del.ensures.does;
      counts =
          counts_so s c.args.command.now Command.Del c.in-Del.is before (g.W.Work.counts c.edit-in-Del.new.work) c.edit-in-Del.result c.edit-in-Del.ensures.counts;
    }

pub returns-in-Cut : goal.returns-in-Cut
returns-in-Cut g c =
    let s = plain_session c.args.self.now in
    let before = g.W.Work.counts c.args.work.now in
    record {
      does = does_so s c.args.command.now (Command.Cut c.in-Cut.name) c.in-Cut.is c.args.self.now c.cut.new.self c.cut.result c.cut.ensures.does;
      counts =
          counts_so s c.args.command.now (Command.Cut c.in-Cut.name) c.in-Cut.is before (g.W.Work.counts c.cut.new.work) c.cut.result c.cut.ensures.counts;
    }

pub returns-in-Insert : goal.returns-in-Insert
returns-in-Insert g c =
    let s = plain_session c.args.self.now in
    let before = g.W.Work.counts c.args.work.now in
    record {
      does = does_so s c.args.command.now (Command.Insert c.in-Insert.name) c.in-Insert.is c.args.self.now c.insert.new.self c.insert.result c.insert.ensures.does;
      counts =
          counts_so s c.args.command.now (Command.Insert c.in-Insert.name) c.in-Insert.is before (g.W.Work.counts c.insert.new.work) c.insert.result c.insert.ensures.counts;
    }

pub returns-in-Undo : goal.returns-in-Undo
returns-in-Undo g c =
    let s = plain_session c.args.self.now in
    let before = g.W.Work.counts c.args.work.now in
    record {
      does = does_so s c.args.command.now Command.Undo c.in-Undo.is c.args.self.now c.undo_edit.new.self c.undo_edit.result c.undo_edit.ensures.does;
      counts =
          counts_so s c.args.command.now Command.Undo c.in-Undo.is before (g.W.Work.counts c.undo_edit.new.work) c.undo_edit.result c.undo_edit.ensures.counts;
    }

pub returns-in-Run : goal.returns-in-Run
returns-in-Run g c =
    let s = plain_session c.args.self.now in
    let before = g.W.Work.counts c.args.work.now in
    record {
      does = does_so s c.args.command.now Command.Run c.in-Run.is c.args.self.now c.run_anew.new.self c.run_anew.result c.run_anew.ensures.does;
      counts =
          counts_so s c.args.command.now Command.Run c.in-Run.is before (g.W.Work.counts c.run_anew.new.work) c.run_anew.result c.run_anew.ensures.counts;
    }

pub returns-in-Copy : goal.returns-in-Copy
returns-in-Copy g c =
    let s = plain_session c.args.self.now in
    let before = g.W.Work.counts c.args.work.now in
    record {
      does = does_so s c.args.command.now (Command.Copy c.in-Copy.name) c.in-Copy.is c.args.self.now c.copy.new.self c.copy.result c.copy.ensures;
      counts =
          counts_so s c.args.command.now (Command.Copy c.in-Copy.name) c.in-Copy.is before before c.copy.result
          (counted_free (copied_to_clip s c.in-Copy.name) before c.copy.result (copied_free s c.in-Copy.name));
    }

pub returns-in-Input : goal.returns-in-Input
returns-in-Input g c =
    let s = plain_session c.args.self.now in
    let before = g.W.Work.counts c.args.work.now in
    record {
      does = does_so s c.args.command.now (Command.Input c.in-Input.text) c.in-Input.is c.args.self.now c.add_input.new.self c.add_input.result c.add_input.ensures;
      counts =
          counts_so s c.args.command.now (Command.Input c.in-Input.text) c.in-Input.is before before c.add_input.result
          (counted_free (input_outcome s c.in-Input.text.now) before c.add_input.result (input_free s c.in-Input.text.now));
    }

pub returns-in-Float : goal.returns-in-Float
returns-in-Float g c =
    let s = plain_session c.args.self.now in
    let before = g.W.Work.counts c.args.work.now in
    let answer = c.refuse.result in
    let outcome = refusal_outcome s why.FloatNotThere in
    record {
      does =
          does_so s c.args.command.now Command.Float c.in-Float.is c.args.self.now c.refuse.new.self (Ok answer)
          (still_does false outcome c.args.self.now c.refuse.new.self answer c.refuse.ensures);
      counts = counts_so s c.args.command.now Command.Float c.in-Float.is before before (Ok answer) (counted_free outcome before (Ok answer) refl);
    }

pub returns-in-Elide : goal.returns-in-Elide
returns-in-Elide g c =
    let s = plain_session c.args.self.now in
    let before = g.W.Work.counts c.args.work.now in
    let answer = c.toggle_comment.result in
    let outcome = comment_toggled s in
    record {
      does =
          does_so s c.args.command.now Command.Elide c.in-Elide.is c.args.self.now c.toggle_comment.new.self (Ok answer)
          (still_does false outcome c.args.self.now c.toggle_comment.new.self answer c.toggle_comment.ensures);
      counts = counts_so s c.args.command.now Command.Elide c.in-Elide.is before before (Ok answer) (counted_free outcome before (Ok answer) (elided_free s));
    }

pub returns-in-Top : goal.returns-in-Top
returns-in-Top g c =
    let s = plain_session c.args.self.now in
    let before = g.W.Work.counts c.args.work.now in
    let answer = c.go_to.result in
    let outcome = line_acceptance_outcome (record s { stop = first_stop s.tree.items }) in
    record {
      does =
          does_so s c.args.command.now Command.Top c.in-Top.is c.args.self.now c.go_to.new.self (Ok answer)
          (still_does false outcome c.args.self.now c.go_to.new.self answer
          (subst (λ (stop : PlainStop). HasOutcome (line_acceptance_outcome (record s { stop = stop })) c.args.self.now c.go_to.new.self answer)
          c.top-stop.ensures.first c.go_to.ensures));
      counts = counts_so s c.args.command.now Command.Top c.in-Top.is before before (Ok answer) (counted_free outcome before (Ok answer) refl);
    }

pub returns-in-Bottom : goal.returns-in-Bottom
returns-in-Bottom g c =
    let s = plain_session c.args.self.now in
    let before = g.W.Work.counts c.args.work.now in
    let go_to = c.go_to-in-Bottom in
    let answer = go_to.result in
    let outcome = line_acceptance_outcome (record s { stop = last_stop s.tree.items }) in
    record {
      does =
          does_so s c.args.command.now Command.Bottom c.in-Bottom.is c.args.self.now go_to.new.self (Ok answer)
          (still_does false outcome c.args.self.now go_to.new.self answer
          (subst (λ (stop : PlainStop). HasOutcome (line_acceptance_outcome (record s { stop = stop })) c.args.self.now go_to.new.self answer)
          c.bottom-stop.ensures.last go_to.ensures));
      counts = counts_so s c.args.command.now Command.Bottom c.in-Bottom.is before before (Ok answer) (counted_free outcome before (Ok answer) refl);
    }

pub returns-in-Back : goal.returns-in-Back
returns-in-Back g c =
    let s = plain_session c.args.self.now in
    let before = g.W.Work.counts c.args.work.now in
    let answer = c.go_back.result in
    let outcome = back_outcome s c.in-Back.steps s.run in
    record {
      does =
          does_so s c.args.command.now (Command.Back c.in-Back.steps) c.in-Back.is c.args.self.now c.go_back.new.self (Ok answer)
          (still_does false outcome c.args.self.now c.go_back.new.self answer c.go_back.ensures);
      counts = counts_so s c.args.command.now (Command.Back c.in-Back.steps) c.in-Back.is before before (Ok answer) (counted_free outcome before (Ok answer) (back_free s c.in-Back.steps s.run));
    }

pub returns-in-Trace : goal.returns-in-Trace
returns-in-Trace g c =
    let s = plain_session c.args.self.now in
    let before = g.W.Work.counts c.args.work.now in
    let answer = c.turn_trace.result in
    let outcome = trace_outcome s in
    record {
      does =
          does_so s c.args.command.now Command.Trace c.in-Trace.is c.args.self.now c.turn_trace.new.self (Ok answer)
          (still_does false outcome c.args.self.now c.turn_trace.new.self answer c.turn_trace.ensures);
      counts = counts_so s c.args.command.now Command.Trace c.in-Trace.is before before (Ok answer) (counted_free outcome before (Ok answer) refl);
    }

pub returns-in-Code : goal.returns-in-Code
returns-in-Code g c =
    let s = plain_session c.args.self.now in
    let before = g.W.Work.counts c.args.work.now in
    let answer = c.show_code.result in
    let outcome = code_outcome s c.in-Code.from in
    record {
      does =
          does_so s c.args.command.now (Command.Code c.in-Code.from) c.in-Code.is c.args.self.now c.show_code.new.self (Ok answer)
          (still_does false outcome c.args.self.now c.show_code.new.self answer c.show_code.ensures);
      counts = counts_so s c.args.command.now (Command.Code c.in-Code.from) c.in-Code.is before before (Ok answer) (counted_free outcome before (Ok answer) (code_free s c.in-Code.from));
    }

pub returns-in-Quit : goal.returns-in-Quit
returns-in-Quit g c =
    let s = plain_session c.args.self.now in
    let before = g.W.Work.counts c.args.work.now in
    record {
      does =
          does_so s c.args.command.now Command.Quit c.in-Quit.is c.args.self.now c.args.self.now (Ok Answer.Quit)
          (record { session = c.requires.session; screens = refl; met = (refl, refl) });
      counts =
          counts_so s c.args.command.now Command.Quit c.in-Quit.is before before (Ok Answer.Quit)
          (counted_free (quit_outcome s) before (Ok Answer.Quit) refl);
    }
