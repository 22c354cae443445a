-- What stands at the cursor is there, so a key whose edit is made counts what the edit does; where it is refused the
-- program is the same but for room, so that the session is seen as before and keeps its conditions.
use Rattle.std.proofs.Common.{◌≡◌, ℕ, Some, Ok, false, true, option_map, refl, sym, ap, subst, ◌∙◌}
use Rattle.template_tree.specs.Positions.Stop.{plain_stop}
use Rattle.template_tree.specs.Programs.PlainTree.{PlainTree, roomless_tree}
use Rattle.edit_undo.specs.EarlierTree.{trees_before}
use Rattle.clip_store.specs.ClipLimit.{has_room, is_full}
use Rattle.clip_store.specs.PlainClips.{PlainClips, kept_pairs}
use Rattle.clip_store.specs.PlainFragment.{kept_fragment, plain_fragment, whole_fragment}
use Rattle.session_edit.specs.Edited.{edited}
use Rattle.session_edit.specs.PlainEdit.{PlainEdit}
use Rattle.synth_session.specs.ClipCommands.{cut_outcome, cut_to_clip, fragment_there, slots_there}
use Rattle.synth_session.specs.KeyOutcome.{KeyOutcome, refusal_outcome}
use Rattle.synth_session.specs.PlainSession.{PlainSession}
use Rattle.synth_session.specs.Private.EditedProgram.{noted_trees, program_before}
use Rattle.synth_session.specs.Private.Faults.{CountsEdit, IsEditFault}
use Rattle.synth_session.specs.SessionView.{CountsOutcome, CountsWanted, Does, plain_session}
use Rattle.synth_session.proofs.AcceptedEdits.{acceptance_does, cut_is, session_accepted}
use Rattle.synth_session.proofs.ClipFragments.{fragment_stands}
use Rattle.synth_session.proofs.CountedPrograms.{clip_fits, key_free}
use Rattle.synth_session.proofs.EditOutcomes.{cut_counted, cut_refused, cut_wanted, ready_with_clips, ready_without_room, refusal_does, seen_without_room}
use Rattle.synth_session.proofs.KeptRuns.{MayGoOnIfStands, kept_stood}
use Rattle.synth_session.proofs.NotedEdits.{came_from, stood_noted}
use Rattle.synth_session.proofs.ObeyedCommands.{still_does}
use Rattle.synth_session.proofs.WantedCounts.{want_free}
use Rattle.synth_session.proofs.session.Session.cut.Goals as goal

pub accept_edit-requires-clause-came : goal.accept_edit-requires-clause-came
accept_edit-requires-clause-came g c =
    let kept = c.keep_for_run.new.self in
    let ready = c.keep_for_run.ensures.ready in
    came_from c.agreement_lasts.ensures.back c.agreement_lasts.ensures.steps c.room_is_not_shown.ensures.once c.room_is_not_shown.ensures.trees
    c.edits_follow.ensures.room kept.program.tree c.change.new.self.tree kept.edits (plain_stop kept.stop) c.in-Ok-change.applied
    ready.session.agrees.tree ready.session.placed.stop c.in-Ok-change.ensures.undoes c.in-Ok-change.ensures.can_revert c.in-Ok-change.ensures.drawn
    c.in-Ok-change.ensures.step ready.edits

pub accept_edit-requires-clause-run : goal.accept_edit-requires-clause-run
accept_edit-requires-clause-run g c =
    let kept = c.keep_for_run.new.self in
    let run = kept.run in
    let after = roomless_tree c.change.new.self.tree in
    let before = program_before c.in-Ok-change.applied after in
    let may = subst (λ (t : PlainTree). MayGoOnIfStands t (trees_before kept.edits t) run.undos run.run) (sym c.in-Ok-change.ensures.undoes)
    c.keep_for_run.ensures.ready.run in (
      c.in-Ok-keep_for_run.ensures.kept,
      kept_stood before after (trees_before kept.edits before) (noted_trees before kept.edits (plain_stop kept.stop) after c.in-Ok-change.applied)
          (stood_noted c.agreement_lasts.ensures.back c.undone_trees_check_alike.ensures after kept.edits (plain_stop kept.stop) c.in-Ok-change.applied
          (accept_edit-requires-clause-came g c)) run.undos run.run c.in-Ok-keep_for_run.ensures.kept may,
    )

pub keep_for_run-requires : goal.keep_for_run-requires
keep_for_run-requires g c = record { ready = ready_with_clips c.args.self.now c.copy_ready.new.clips c.requires.session }

pub refuse-requires : goal.refuse-requires
refuse-requires g c =
    ready_without_room c.keep_for_run.new.self c.change.new.self c.change.ensures.agrees c.change.ensures.code c.in-Err-change.ensures.same
    c.keep_for_run.ensures.ready

-- the clips have room for the copy
pub keep-requires-clause-fits : goal.keep-requires-clause-fits
keep-requires-clause-fits g c =
    let s = plain_session c.args.self.now in
    let name = c.args.name.now in
    let kept = c.keep_for_run.new.self in
    let same : plain_session kept ≡ s = c.keep_for_run.ensures.plain ∙ (λ i. record s { clips = kept_pairs (c.copy_ready.ensures.same i) }) in
    subst (λ (n : ℕ). is_full name n (plain_session kept).clips ≡ false) (sym c.in-Ok-copy_ready.ensures.slots)
    (subst (λ (t : PlainSession). is_full name (slots_there s.tree s.stop) t.clips ≡ false) (sym same) c.in-Ok.ensures.fits)

pub keep-requires-clause-room : goal.keep-requires-clause-room
keep-requires-clause-room g c =
    subst (λ (clips : PlainClips). has_room c.args.name.now clips ≡ true) (sym c.keep_for_run.ensures.clips) c.in-Ok-copy_ready.ensures.room

-- the edit is made
pub returns-in-Ok-change : goal.returns-in-Ok-change
returns-in-Ok-change g c =
    let s = plain_session c.args.self.now in
    let name = c.args.name.now in
    let before = g.W.Work.counts c.args.work.now in
    let now = g.W.Work.counts c.change.new.work in
    let takes = c.in-Ok.ensures.takes in
    let fits = c.in-Ok.ensures.fits in
    let outcome = cut_outcome s name (edited s.tree s.stop PlainEdit.take) (fragment_there s.tree s.stop s.stop.part) in
    let kept = c.keep_for_run.new.self in
    let program = c.change.new.self in
    let applied = c.in-Ok-change.applied in
    let law = c.room_is_not_shown.ensures.counts in
    let undoes = c.in-Ok-change.ensures.undoes in
    let some = c.in-Ok-keep_for_run.ensures.kept in
    let copy = kept_fragment (plain_fragment c.in-Ok-copy_ready.copy) in
    let same : plain_session kept ≡ s = c.keep_for_run.ensures.plain ∙ (λ i. record s { clips = kept_pairs (c.copy_ready.ensures.same i) }) in
    let copied : Some copy ≡ option_map whole_fragment (fragment_there (plain_session kept).tree (plain_session kept).stop (plain_session kept).stop.part) =
    c.in-Ok-copy_ready.ensures.copy
    ∙ sym (ap (λ (t : PlainSession). option_map whole_fragment (fragment_there t.tree t.stop t.stop.part)) same) in
    let counts : CountsEdit s.tree (edited s.tree s.stop PlainEdit.take) before now =
    subst (λ (t : PlainSession). CountsEdit t.tree (edited t.tree t.stop PlainEdit.take) before now) same c.change.ensures.counts in
    record {
      does =
          clip_fits s name outcome (λ (o : KeyOutcome). Does true o c.args.self.now c.accept_edit.new.self (Ok c.accept_edit.result)) takes fits
          (acceptance_does c.args.self.now (record kept { program = program; clips = c.keep.new.clips }) c.accept_edit.new.self c.accept_edit.result
          outcome (plain_session kept).tree applied.receipt.change.what applied.receipt.change.slot.0
          (record (session_accepted law kept program applied undoes some) { clips = kept_pairs c.keep.new.clips.pairs })
          (cut_is law kept program applied undoes some name (kept_pairs c.keep.new.clips.pairs) copy
          (fragment_there (plain_session kept).tree (plain_session kept).stop (plain_session kept).stop.part)
          (edited (plain_session kept).tree (plain_session kept).stop PlainEdit.take) copied
          c.in-Ok-change.ensures.became c.keep.ensures
          ∙ ap (λ (t : PlainSession). cut_outcome t name (edited t.tree t.stop PlainEdit.take) (fragment_there t.tree t.stop t.stop.part)) same)
          c.keep_for_run.ensures.screens c.accept_edit.ensures);
      counts =
          clip_fits s name outcome (λ (o : KeyOutcome). CountsOutcome o before now (Ok c.accept_edit.result)) takes fits
          (cut_counted s name (edited s.tree s.stop PlainEdit.take) (fragment_there s.tree s.stop s.stop.part)
          (fragment_stands s.tree s.stop takes) counts);
    }

-- memory ran out before the edit
pub returns-in-Err-keep_for_run : goal.returns-in-Err-keep_for_run
returns-in-Err-keep_for_run g c =
    let s = plain_session c.args.self.now in
    let outcome = cut_to_clip s c.args.name.now in
    record {
      does = record {
        session = c.keep_for_run.ensures.ready;
        screens = c.keep_for_run.ensures.screens;
        met = (refl, c.keep_for_run.ensures.plain ∙ (λ i. record s { clips = kept_pairs (c.copy_ready.ensures.same i) }));
      };
      counts = want_free outcome.checks outcome.emits outcome.fetches;
    }

pub returns-in-Err-copy_ready : goal.returns-in-Err-copy_ready
returns-in-Err-copy_ready g c =
    let s = plain_session c.args.self.now in
    let outcome = cut_to_clip s c.args.name.now in
    record {
      does = record {
        session = ready_with_clips c.args.self.now c.copy_ready.new.clips c.requires.session;
        screens = refl;
        met = (refl, λ i. record s { clips = kept_pairs (c.copy_ready.ensures.same i) });
      };
      counts = want_free outcome.checks outcome.emits outcome.fetches;
    }

-- memory ran out in it
pub returns-in-OutOfMemory : goal.returns-in-OutOfMemory
returns-in-OutOfMemory g c =
    let s = plain_session c.args.self.now in
    let name = c.args.name.now in
    let before = g.W.Work.counts c.args.work.now in
    let now = g.W.Work.counts c.change.new.work in
    let takes = c.in-Ok.ensures.takes in
    let outcome = cut_outcome s name (edited s.tree s.stop PlainEdit.take) (fragment_there s.tree s.stop s.stop.part) in
    let kept = c.keep_for_run.new.self in
    let same : plain_session kept ≡ s = c.keep_for_run.ensures.plain ∙ (λ i. record s { clips = kept_pairs (c.copy_ready.ensures.same i) }) in
    let counts : CountsEdit s.tree (edited s.tree s.stop PlainEdit.take) before now =
    subst (λ (t : PlainSession). CountsEdit t.tree (edited t.tree t.stop PlainEdit.take) before now) same c.change.ensures.counts in
    record {
      does = record {
        session = ready_without_room kept c.change.new.self c.change.ensures.agrees c.change.ensures.code c.in-Err-change.ensures.same
            c.keep_for_run.ensures.ready;
        screens = c.keep_for_run.ensures.screens;
        met = (refl, seen_without_room kept c.change.new.self c.in-Err-change.ensures.same ∙ same);
      };
      counts =
          clip_fits s name outcome (λ (o : KeyOutcome). CountsWanted o before now) takes c.in-Ok.ensures.fits
          (cut_wanted s name (edited s.tree s.stop PlainEdit.take) (fragment_there s.tree s.stop s.stop.part)
          (fragment_stands s.tree s.stop takes) counts);
    }

-- the edit is refused
pub returns-in_default : goal.returns-in_default
returns-in_default g c =
    let s = plain_session c.args.self.now in
    let name = c.args.name.now in
    let before = g.W.Work.counts c.args.work.now in
    let now = g.W.Work.counts c.change.new.work in
    let takes = c.in-Ok.ensures.takes in
    let fits = c.in-Ok.ensures.fits in
    let outcome = cut_outcome s name (edited s.tree s.stop PlainEdit.take) (fragment_there s.tree s.stop s.stop.part) in
    let fault = c.in-Err-change.fault in
    let fragment = fragment_there s.tree s.stop s.stop.part in
    let kept = c.keep_for_run.new.self in
    let same : plain_session kept ≡ s = c.keep_for_run.ensures.plain ∙ (λ i. record s { clips = kept_pairs (c.copy_ready.ensures.same i) }) in
    let refused : IsEditFault (edited s.tree s.stop PlainEdit.take) fault =
    subst (λ (t : PlainSession). IsEditFault (edited t.tree t.stop PlainEdit.take) fault) same c.in-Err-change.ensures.refused in
    let counts : CountsEdit s.tree (edited s.tree s.stop PlainEdit.take) before now =
    subst (λ (t : PlainSession). CountsEdit t.tree (edited t.tree t.stop PlainEdit.take) before now) same c.change.ensures.counts in
    record {
      does =
          clip_fits s name outcome (λ (o : KeyOutcome). Does true o c.args.self.now c.refuse.new.self (Ok c.refuse.result)) takes fits
          (refusal_does c.args.self.now (record kept { program = c.change.new.self }) c.refuse.new.self c.refuse.result
          outcome c.edit_refusal.result fault c.edit_refusal.ensures
          (cut_refused s name fragment (edited s.tree s.stop PlainEdit.take) fault refused c.in_default.not-OutOfMemory)
          (seen_without_room kept c.change.new.self c.in-Err-change.ensures.same ∙ same) c.keep_for_run.ensures.screens c.refuse.ensures);
      counts =
          clip_fits s name outcome (λ (o : KeyOutcome). CountsOutcome o before now (Ok c.refuse.result)) takes fits
          (cut_counted s name (edited s.tree s.stop PlainEdit.take) fragment (fragment_stands s.tree s.stop takes) counts);
    }

-- it can't be taken out, or the clips are full
pub returns-in-Err : goal.returns-in-Err
returns-in-Err g c =
    let s = plain_session c.args.self.now in
    let why = c.in-Err.why in
    let refuse = c.refuse-in-Err in
    let counts = g.W.Work.counts c.args.work.now in
    let is =
    c.in-Err.ensures.refused s
    (cut_outcome s c.args.name.now (edited s.tree s.stop PlainEdit.take) (fragment_there s.tree s.stop s.stop.part)) in
    record {
      does =
          subst (λ (o : KeyOutcome). Does true o c.args.self.now refuse.new.self (Ok refuse.result)) (sym is)
          (still_does true (refusal_outcome s why) c.args.self.now refuse.new.self refuse.result refuse.ensures);
      counts = subst (λ (o : KeyOutcome). CountsOutcome o counts counts (Ok refuse.result)) (sym is) (key_free 0 0);
    }
