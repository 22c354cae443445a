use Rattle.std.proofs.Common.{◌≡◌, ◌∙◌, List, ap, refl, sym, subst}
use Rattle.template_tree.specs.Programs.PlainTree.{PlainTree, roomless_tree}
use Rattle.edit_undo.specs.EarlierTree.{EarlierTree, trees_before}
use Rattle.edit_undo.specs.declared.edit_record.EditRecord.{EditRecord}
use Rattle.session_words.specs.declared.message.Notice.{Notice}
use Rattle.synth_session.specs.declared.answer.Refusal.TheVariants as why
use Rattle.synth_session.specs.KeyOutcome.{KeyOutcome, line_notice_outcome, refusal_outcome}
use Rattle.synth_session.specs.PlainHeldRun.{PlainHeldRun}
use Rattle.synth_session.specs.PlainSession.{PlainSession}
use Rattle.synth_session.specs.Private.MemorylessKey.{HasOutcome}
use Rattle.synth_session.specs.SessionView.{EditsFit, plain_session}
use Rattle.synth_session.proofs.FittingRuns.{FitsHeld, back_goes, back_held, back_runless, back_stays, same_held}
use Rattle.synth_session.proofs.session.Session.go_back.Goals as goal

pub accept_line_with-requires-clause-run : goal.accept_line_with-requires-clause-run
accept_line_with-requires-clause-run g c =
    let old = c.args.self.now in
    let new = c.go_to_run.new.self in
    let earlier : trees_before new.edits (roomless_tree new.program.tree) ≡ (plain_session old).earlier =
    λ i. trees_before (c.go_to_run.ensures.edits i) (roomless_tree (c.go_to_run.ensures.program i).tree) in
    subst (λ (e : List EarlierTree). FitsHeld (roomless_tree new.program.tree) e new.run.undos new.run.run) (sym earlier)
    (same_held (roomless_tree old.program.tree) (roomless_tree new.program.tree) (plain_session old).earlier c.back.new.self new.run
    (ap (λ p. roomless_tree p.tree) c.go_to_run.ensures.program) c.go_to_run.ensures.run
    (back_held (roomless_tree old.program.tree) (plain_session old).earlier old.run.undos c.back.new.self.undos c.args.steps
    old.run.run c.back.new.self.run c.in-Ok.ensures.back c.requires.run))

pub accept_line_with-requires-clause-edits : goal.accept_line_with-requires-clause-edits
accept_line_with-requires-clause-edits g c =
    let old = c.args.self.now in
    let new = c.go_to_run.new.self in
    subst (λ (edits : List EditRecord). EditsFit edits (roomless_tree new.program.tree)) (sym c.go_to_run.ensures.edits)
    (subst (λ (tree : PlainTree). EditsFit old.edits tree) (sym (ap (λ p. roomless_tree p.tree) c.go_to_run.ensures.program)) c.requires.edits)

pub returns-then-not-stands : goal.returns-then-not-stands
returns-then-not-stands g c =
    let s = plain_session c.args.self.now in
    subst (λ (outcome : KeyOutcome). HasOutcome outcome c.args.self.now c.refuse.new.self c.refuse.result)
    (sym (back_runless s c.args.steps c.args.self.now.run.undos c.args.self.now.run.run (sym c.stands.ensures ∙ c.if-not-stands.true)))
    c.refuse.ensures

pub returns-in-Err : goal.returns-in-Err
returns-in-Err g c =
    let old = c.args.self.now in
    let s = plain_session old in
    subst (λ (outcome : KeyOutcome). HasOutcome outcome old c.refuse-in-Err.new.self c.refuse-in-Err.result)
    (sym (back_stays s c.args.steps old.run.undos old.run.run (sym c.stands.ensures ∙ c.if-not-stands.false) (c.in-Err.ensures.none.0 refl)))
    (subst
    (λ (held : PlainHeldRun).
    HasOutcome (refusal_outcome (plain_session (record old { run = held })) why.NoHistory) (record old { run = held }) c.refuse-in-Err.new.self
    c.refuse-in-Err.result)
    c.in-Err.ensures.refused c.refuse-in-Err.ensures)

pub returns-in-Ok : goal.returns-in-Ok
returns-in-Ok g c =
    let s = plain_session c.args.self.now in
    let has = c.accept_line_with.ensures in
    let goes = back_goes s c.args.steps c.args.self.now.run.undos c.back.new.self.undos c.args.self.now.run.run c.back.new.self.run c.in-Ok.ensures.back in
    record {
      session = has.session;
      screens = has.screens ∙ c.go_to_run.ensures.screens;
      after = has.after ∙ ap (λ (t : PlainSession). (line_notice_outcome t Notice.Paused).after) c.go_to_run.ensures.gone
          ∙ sym (ap (λ (outcome : KeyOutcome). outcome.after) goes);
      answered = has.answered ∙ sym (ap (λ (outcome : KeyOutcome). outcome.answer) goes);
    }
