-- The newest edit is undone, the run's history is let go of, and the cursor goes where it stood; where memory runs out the
-- program is the same but for room, and the edits lead back to the same trees.
use Rattle.std.proofs.Common.{◌≡◌, [], List, Option, Ok, length, true, arith, ap, refl, subst, sym, ◌∙◌}
use Rattle.std.proofs.lemmas.Grind.{common_steps}
use Rattle.plcs_store.specs.declared.run_state.Run.{Run}
use Rattle.plcs_store.specs.declared.undo.Undo.{Undo}
use Rattle.template_tree.specs.Positions.Stop.{plain_stop}
use Rattle.template_tree.specs.Programs.PlainTree.{roomless_tree}
use Rattle.edit_undo.specs.EarlierTree.{trees_before}
use Rattle.synth_session.specs.declared.answer.Refusal.TheVariants as why
use Rattle.synth_session.specs.EditCommands.{session_with}
use Rattle.synth_session.specs.KeyOutcome.{KeyOutcome, edit_acceptance_outcome, refusal_outcome}
use Rattle.synth_session.specs.PlainSession.{PlainSession}
use Rattle.synth_session.specs.Private.UndoneProgram.{CountsBackTo}
use Rattle.synth_session.specs.SessionView.{CountsOutcome, Does, plain_session}
use Rattle.synth_session.specs.UndoCommand.{undo_outcome, undone_to}
use Rattle.synth_session.proofs.AcceptedEdits.{acceptance_does, forgotten_seen, undone_counted, undone_is, undone_wanted}
use Rattle.synth_session.proofs.CountedPrograms.{key_free}
use Rattle.synth_session.proofs.EditOutcomes.{ready_put_back, seen_put_back}
use Rattle.synth_session.proofs.FittingRuns.{FitsHeld, forgotten_may}
use Rattle.synth_session.proofs.KeptRuns.{kept_stood}
use Rattle.synth_session.proofs.ObeyedCommands.{still_does}
use Rattle.synth_session.proofs.UndoneEdits.{left_fit, left_stood, none_earlier}
use Rattle.synth_session.proofs.WantedCounts.{want_free}
use Rattle.synth_session.proofs.session.Session.undo_edit.Goals as goal

pub accept_line-requires-clause-placed : goal.accept_line-requires-clause-placed
accept_line-requires-clause-placed g c =
    record { stop = c.in-Ok-undo.ensures.stop; top = c.keep_for_run.ensures.ready.session.placed.top }

pub accept_line-requires-clause-run : goal.accept_line-requires-clause-run
accept_line-requires-clause-run g c =
    let kept = c.keep_for_run.new.self in
    let before = roomless_tree kept.program.tree in
    let after = roomless_tree c.undo.new.self.tree in
    let left = c.undo.new.edits in
    let earlier = trees_before left after in
    let some = c.in-Ok.ensures.kept in
    let stood = kept_stood before after (trees_before kept.edits before) earlier
    (left_stood c.agreement_lasts.ensures.back c.undone_trees_check_alike.ensures before after kept.edits left (plain_stop c.in-Ok-undo.stop)
    c.in-Ok-undo.ensures.undone) kept.run.undos kept.run.run some c.keep_for_run.ensures.ready.run in
    subst (λ (u : List Undo). FitsHeld after earlier u c.forget.new.self.run) (sym c.forget.ensures.undos)
    (subst (λ (h : Option Run). FitsHeld after earlier [] h) (sym c.forget.ensures.run)
    (forgotten_may after earlier kept.run.undos kept.run.run some stood))

pub accept_line-requires-clause-edits : goal.accept_line-requires-clause-edits
accept_line-requires-clause-edits g c =
    let kept = c.keep_for_run.new.self in
    left_fit c.agreement_lasts.ensures.back c.undone_trees_check_alike.ensures (roomless_tree kept.program.tree) (roomless_tree c.undo.new.self.tree)
    kept.edits c.undo.new.edits (plain_stop c.in-Ok-undo.stop) c.in-Ok-undo.ensures.undone c.undo.ensures.fits c.keep_for_run.ensures.ready.edits

-- none is held
pub returns-then-held-eq0 : goal.returns-then-held-eq0
returns-then-held-eq0 g c =
    let s = plain_session c.args.self.now in
    let edits = c.args.self.now.edits in
    let counts = g.W.Work.counts c.args.work.now in
    let counted = c.held.ensures.edits in
    let test = c.if-held-eq0.true in
    let none : length edits ≡ 0 = grind (arith, common_steps) in
    let is = sym (ap (undone_to s) (none_earlier edits s.tree none)) in
    record {
      does =
          subst (λ (o : KeyOutcome). Does true o c.args.self.now c.refuse.new.self (Ok c.refuse.result)) is
          (still_does true (refusal_outcome s why.NothingToUndo) c.args.self.now c.refuse.new.self c.refuse.result c.refuse.ensures);
      counts = subst (λ (o : KeyOutcome). CountsOutcome o counts counts (Ok c.refuse.result)) is (key_free 0 0);
    }

-- the edit is undone
pub returns-in-Ok-undo : goal.returns-in-Ok-undo
returns-in-Ok-undo g c =
    let s = plain_session c.args.self.now in
    let kept = c.keep_for_run.new.self in
    let program = c.undo.new.self in
    let edits = c.undo.new.edits in
    let at = c.in-Ok-undo.stop in
    let stop = plain_stop at in
    let went = c.in-Ok-undo.ensures.undone in
    let same = c.keep_for_run.ensures.plain in
    let counts : CountsBackTo s.earlier s.tree (g.W.Work.counts c.args.work.now) (g.W.Work.counts c.undo.new.work) =
    subst (λ (t : PlainSession). CountsBackTo t.earlier t.tree (g.W.Work.counts c.args.work.now) (g.W.Work.counts c.undo.new.work)) same
    c.undo.ensures.counts in
    let run = forgotten_seen (roomless_tree program.tree).items kept.run.undos c.forget.new.self.undos kept.run.run c.forget.new.self.run
    c.forget.ensures.run c.forget.ensures.undos in
    let back = record kept { program = program; edits = edits } in
    let now = record kept { program = program; edits = edits; run = c.forget.new.self; stop = at } in
    let seen : plain_session now ≡ session_with (plain_session back) (roomless_tree program.tree) stop =
    λ i. record (plain_session back) { stop = stop; run = run i } in
    record {
      does = acceptance_does c.args.self.now now c.accept_line.new.self c.accept_line.result (undo_outcome s)
          (plain_session kept).tree went.latest.what went.latest.slot (plain_session now)
          (ap (edit_acceptance_outcome (plain_session kept).tree went.latest.what went.latest.slot) seen
          ∙ undone_is kept program edits stop went c.in-Ok.ensures.kept
          ∙ ap (λ (t : PlainSession). undo_outcome t) same)
          c.keep_for_run.ensures.screens c.accept_line.ensures;
      counts = undone_counted s s.earlier counts;
    }

-- memory ran out
pub returns-in-Err-OutOfMemory : goal.returns-in-Err-OutOfMemory
returns-in-Err-OutOfMemory g c =
    let s = plain_session c.args.self.now in
    let kept = c.keep_for_run.new.self in
    let program = c.undo.new.self in
    let edits = c.undo.new.edits in
    let same = c.in-Err-OutOfMemory.ensures.same in
    let earlier = c.in-Err-OutOfMemory.ensures.same_earlier in
    record {
      does = record {
        session = ready_put_back kept program edits c.undo.ensures.agrees c.undo.ensures.code c.undo.ensures.fits same earlier c.keep_for_run.ensures.ready;
        screens = c.keep_for_run.ensures.screens;
        met = (refl, seen_put_back kept program edits same earlier ∙ c.keep_for_run.ensures.plain);
      };
      counts =
          undone_wanted s s.earlier
          (subst (λ (t : PlainSession). CountsBackTo t.earlier t.tree (g.W.Work.counts c.args.work.now) (g.W.Work.counts c.undo.new.work))
          c.keep_for_run.ensures.plain c.undo.ensures.counts);
    }

pub returns-in-Err : goal.returns-in-Err
returns-in-Err g c =
    let outcome = undo_outcome (plain_session c.args.self.now) in
    record {
      does = record {
        session = c.keep_for_run.ensures.ready;
        screens = c.keep_for_run.ensures.screens;
        met = (refl, c.keep_for_run.ensures.plain);
      };
      counts = want_free outcome.checks outcome.emits outcome.fetches;
    }
