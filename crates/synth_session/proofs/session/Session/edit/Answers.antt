use Rattle.std.proofs.Common.{ap, refl, sym, subst, ◌∙◌}
use Rattle.template_tree.specs.Positions.Stop.{plain_stop}
use Rattle.template_tree.specs.Programs.PlainTree.{PlainTree, roomless_tree}
use Rattle.edit_undo.specs.EarlierTree.{trees_before}
use Rattle.session_edit.specs.Edited.{edited}
use Rattle.session_edit.specs.PlainEdit.{plain_edit}
use Rattle.synth_session.specs.EditCommands.{edited_by}
use Rattle.synth_session.specs.PlainSession.{PlainSession}
use Rattle.synth_session.specs.Private.EditedProgram.{noted_trees, program_before}
use Rattle.synth_session.specs.Private.Faults.{CountsEdit, IsEditFault}
use Rattle.synth_session.specs.SessionView.{plain_session}
use Rattle.synth_session.proofs.AcceptedEdits.{acceptance_does, edited_is, session_accepted}
use Rattle.synth_session.proofs.EditOutcomes.{edited_counted, edited_refused, edited_wanted, ready_without_room, refusal_does, seen_without_room}
use Rattle.synth_session.proofs.KeptRuns.{MayGoOnIfStands, kept_stood}
use Rattle.synth_session.proofs.NotedEdits.{came_from, stood_noted}
use Rattle.synth_session.proofs.WantedCounts.{want_free}
use Rattle.synth_session.proofs.session.Session.edit.Goals as goal

pub accept_edit-requires-clause-came : goal.accept_edit-requires-clause-came
accept_edit-requires-clause-came g c =
    let kept = c.keep_for_run.new.self in
    let ready = c.keep_for_run.ensures.ready in
    came_from c.agreement_lasts.ensures.back c.agreement_lasts.ensures.steps c.room_is_not_shown.ensures.once c.room_is_not_shown.ensures.trees
    c.edits_follow.ensures.room kept.program.tree c.change.new.self.tree kept.edits (plain_stop kept.stop) c.in-Ok-change.applied
    ready.session.agrees.tree ready.session.placed.stop c.in-Ok-change.ensures.undoes c.in-Ok-change.ensures.can_revert c.in-Ok-change.ensures.drawn
    c.in-Ok-change.ensures.step ready.edits

pub accept_edit-requires-clause-run : goal.accept_edit-requires-clause-run
accept_edit-requires-clause-run g c =
    let kept = c.keep_for_run.new.self in
    let run = kept.run in
    let after = roomless_tree c.change.new.self.tree in
    let before = program_before c.in-Ok-change.applied after in
    let may = subst (λ (t : PlainTree). MayGoOnIfStands t (trees_before kept.edits t) run.undos run.run) (sym c.in-Ok-change.ensures.undoes)
    c.keep_for_run.ensures.ready.run in (
      c.in-Ok.ensures.kept,
      kept_stood before after (trees_before kept.edits before) (noted_trees before kept.edits (plain_stop kept.stop) after c.in-Ok-change.applied)
          (stood_noted c.agreement_lasts.ensures.back c.undone_trees_check_alike.ensures after kept.edits (plain_stop kept.stop) c.in-Ok-change.applied
          (accept_edit-requires-clause-came g c)) run.undos run.run c.in-Ok.ensures.kept may,
    )

pub refuse-requires : goal.refuse-requires
refuse-requires g c =
    ready_without_room c.keep_for_run.new.self c.change.new.self c.change.ensures.agrees c.change.ensures.code c.in-Err-change.ensures.same
    c.keep_for_run.ensures.ready

-- the edit is made
pub returns-in-Ok-change : goal.returns-in-Ok-change
returns-in-Ok-change g c =
    let s = plain_session c.args.self.now in
    let edit = plain_edit c.args.edit in
    let kept = c.keep_for_run.new.self in
    let program = c.change.new.self in
    let applied = c.in-Ok-change.applied in
    let same = c.keep_for_run.ensures.plain in
    let law = c.room_is_not_shown.ensures.counts in
    let undoes = c.in-Ok-change.ensures.undoes in
    let some = c.in-Ok.ensures.kept in
    let counts : CountsEdit s.tree (edited s.tree s.stop edit) (g.W.Work.counts c.args.work.now) (g.W.Work.counts c.change.new.work) =
    subst (λ (t : PlainSession). CountsEdit t.tree (edited t.tree t.stop edit) (g.W.Work.counts c.args.work.now) (g.W.Work.counts c.change.new.work))
    same c.change.ensures.counts in
    record {
      does = acceptance_does c.args.self.now (record kept { program = program }) c.accept_edit.new.self c.accept_edit.result (edited_by s edit)
          (plain_session kept).tree applied.receipt.change.what applied.receipt.change.slot.0
          (session_accepted law kept program applied undoes some)
          (edited_is law kept program applied undoes some edit c.in-Ok-change.ensures.became
          ∙ ap (λ (t : PlainSession). edited_by t edit) same) c.keep_for_run.ensures.screens c.accept_edit.ensures;
      counts = edited_counted s edit counts;
    }

-- the edit is refused
pub returns-in_default : goal.returns-in_default
returns-in_default g c =
    let s = plain_session c.args.self.now in
    let edit = plain_edit c.args.edit in
    let kept = c.keep_for_run.new.self in
    let fault = c.in-Err-change.fault in
    let same = c.keep_for_run.ensures.plain in
    let refused : IsEditFault (edited s.tree s.stop edit) fault =
    subst (λ (t : PlainSession). IsEditFault (edited t.tree t.stop edit) fault) same c.in-Err-change.ensures.refused in
    let counts : CountsEdit s.tree (edited s.tree s.stop edit) (g.W.Work.counts c.args.work.now) (g.W.Work.counts c.change.new.work) =
    subst (λ (t : PlainSession). CountsEdit t.tree (edited t.tree t.stop edit) (g.W.Work.counts c.args.work.now) (g.W.Work.counts c.change.new.work))
    same c.change.ensures.counts in
    record {
      does = refusal_does c.args.self.now (record kept { program = c.change.new.self }) c.refuse.new.self c.refuse.result (edited_by s edit)
          c.edit_refusal.result fault c.edit_refusal.ensures (edited_refused s edit fault refused c.in_default.not-OutOfMemory)
          (seen_without_room kept c.change.new.self c.in-Err-change.ensures.same ∙ same) c.keep_for_run.ensures.screens c.refuse.ensures;
      counts = edited_counted s edit counts;
    }

-- memory ran out
pub returns-in-OutOfMemory : goal.returns-in-OutOfMemory
returns-in-OutOfMemory g c =
    let s = plain_session c.args.self.now in
    let edit = plain_edit c.args.edit in
    let kept = c.keep_for_run.new.self in
    let same = c.keep_for_run.ensures.plain in
    let counts : CountsEdit s.tree (edited s.tree s.stop edit) (g.W.Work.counts c.args.work.now) (g.W.Work.counts c.change.new.work) =
    subst (λ (t : PlainSession). CountsEdit t.tree (edited t.tree t.stop edit) (g.W.Work.counts c.args.work.now) (g.W.Work.counts c.change.new.work))
    same c.change.ensures.counts in
    record {
      does = record {
        session = ready_without_room kept c.change.new.self c.change.ensures.agrees c.change.ensures.code c.in-Err-change.ensures.same
            c.keep_for_run.ensures.ready;
        screens = c.keep_for_run.ensures.screens;
        met = (refl, seen_without_room kept c.change.new.self c.in-Err-change.ensures.same ∙ same);
      };
      counts = edited_wanted s edit counts;
    }

pub returns-in-Err : goal.returns-in-Err
returns-in-Err g c =
    let outcome = edited_by (plain_session c.args.self.now) (plain_edit c.args.edit) in
    record {
      does = record {
        session = c.keep_for_run.ensures.ready;
        screens = c.keep_for_run.ensures.screens;
        met = (refl, c.keep_for_run.ensures.plain);
      };
      counts = want_free outcome.checks outcome.emits outcome.fetches;
    }
