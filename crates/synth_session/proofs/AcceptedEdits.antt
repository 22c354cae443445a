-- edit, copy, cut, accept_edit and undo_edit: what comes of a key whose edit is made and noted, or undone, or by
-- which a clip is filled, is what its outcome says, and counts what that says.
use Rattle.std.proofs.Common.{◌≡◌, ℕ, ◌+◌, true, List, [], ◌∷◌, Option, Some, None, option_map, refl, sym, ap, ◌∙◌}
use Rattle.std.specs.Prelude.{IfSome, IsSome, Ok}
use Rattle.std.proofs.lemmas.Option.{none-some, same_Some}
use Rattle.plcs_base.specs.PlainCounts.{PlainCounts}
use Rattle.plcs_store.specs.declared.run_state.Run.{Run}
use Rattle.plcs_store.specs.declared.undo.Undo.{Undo}
use Rattle.template_tree.specs.declared.change.What.{What}
use Rattle.template_tree.specs.Edits.Reversal.{reverse_of}
use Rattle.template_tree.specs.Laws.RoomLaws.{CountsIgnoreRoom}
use Rattle.template_tree.specs.Positions.Stop.{PlainStop, plain_stop}
use Rattle.template_tree.specs.Programs.PlainTree.{Forest, PlainNode, PlainTree, roomless_node, roomless_tree}
use Rattle.clip_store.specs.PlainClips.{with_clip}
use Rattle.clip_store.specs.PlainFragment.{PlainFragment, whole_fragment}
use Rattle.edit_undo.specs.EarlierTree.{EarlierTree, as_kept, kept_trees, trees_before}
use Rattle.edit_undo.specs.EditLimit.{edit_weight}
use Rattle.edit_undo.specs.declared.edit_record.EditRecord.{EditRecord}
use Rattle.session_edit.specs.declared.applied.Applied.{Applied}
use Rattle.session_edit.specs.Edited.{Edited, edited}
use Rattle.session_edit.specs.PlainEdit.{PlainEdit}
use Rattle.synth_session.specs.declared.answer.Answer.{Answer}
use Rattle.synth_session.specs.declared.program.Program.{Program}
use Rattle.synth_session.specs.declared.session.Session.{Session}
use Rattle.synth_session.specs.ClipCommands.{copy_outcome, cut_outcome}
use Rattle.synth_session.specs.CountedKey.{CountsPressed, CountsPressedAtMost}
use Rattle.synth_session.specs.EditCommands.{earlier_after, edit_outcome, edited_by, edited_session, session_with}
use Rattle.synth_session.specs.KeyOutcome.{KeyOutcome, edit_acceptance_outcome, line_acceptance_outcome}
use Rattle.synth_session.specs.PlainRun.{without_earlier}
use Rattle.synth_session.specs.PlainSession.{PlainSession}
use Rattle.synth_session.specs.Private.EditedProgram.{noted_trees, program_before}
use Rattle.synth_session.specs.Private.MemorylessKey.{HasOutcome}
use Rattle.synth_session.specs.Private.UndoneProgram.{CountsBackTo, GoesBackTo}
use Rattle.synth_session.specs.SessionView.{Does, plain_run, plain_session}
use Rattle.synth_session.specs.UndoCommand.{stop_or_comment, undo_outcome, undone_to}
use Rattle.synth_session.proofs.CountedPrograms.{key_counted}
use Rattle.synth_session.proofs.KeptRuns.{kept_same}
use Rattle.synth_session.proofs.WantedCounts.{want_counted}

-- a run of which the earlier configurations are let go of is seen without them
pub forgotten_seen : (program : Forest) (undos undos_now : List Undo) (run now : Option Run) → now ≡ run → undos_now ≡ []
    → option_map (plain_run program undos_now) now ≡ option_map without_earlier (option_map (plain_run program undos) run)
forgotten_seen program undos undos_now run now same none =
    (λ i. option_map (plain_run program (none i)) (same i)) ∙ by run
  where
    by : (run : Option Run) → option_map (plain_run program []) run ≡ option_map without_earlier (option_map (plain_run program undos) run)
    by None = refl
    by (Some run) = refl

-- a key did this where it is accepted so, in a session with the same screens
pub acceptance_does : {W : Type 0} (old kept now : Session W) (answer : Answer) (outcome : KeyOutcome) (before : PlainTree) (what : What)
    (slot : ℕ) (accepted : PlainSession) → edit_acceptance_outcome before what slot accepted ≡ outcome → kept.screens ≡ old.screens
    → HasOutcome (line_acceptance_outcome accepted) kept now answer → Does true outcome old now (Ok answer)
acceptance_does old kept now answer outcome before what slot accepted is screens has =
    record {
      session = has.session;
      screens = has.screens ∙ screens;
      met = (has.after ∙ ap (λ (o : KeyOutcome). o.after) is, has.answered ∙ ap (λ (o : KeyOutcome). o.answer) is);
    }

-- ---- an edit that is made

-- the weight of what was taken out is the one without room
weighs_same : CountsIgnoreRoom → (taken : Option PlainNode) → edit_weight taken ≡ edit_weight (option_map roomless_node taken)
weighs_same counts None = refl
weighs_same counts (Some node) = sym (ap (λ (n : ℕ). n + 1) (counts node.inner))

module _ {W : Type 0} (counts : CountsIgnoreRoom) (kept : Session W) (program : Program W) (applied : Applied)
    (undoes : program_before applied (roomless_tree program.tree) ≡ roomless_tree kept.program.tree)
    (some : IfSome kept.run.run (λ run. IsSome run.kept)) where
  -- the tree before the edit is noted with the edits before it
  earlier_noted :
      noted_trees (program_before applied (roomless_tree program.tree)) kept.edits (plain_stop kept.stop) (roomless_tree program.tree) applied
      ≡ earlier_after (plain_session kept) (roomless_tree program.tree) (option_map roomless_node applied.taken)
      applied.receipt.change.what applied.receipt.change.slot.0
  earlier_noted =
      let weight : edit_weight applied.taken ≡ edit_weight (option_map roomless_node applied.taken) = weighs_same counts applied.taken in
      λ i.
      kept_trees
      (record {
        tree = as_kept (roomless_tree program.tree) (undoes i);
        stop = plain_stop kept.stop;
        weight = weight i;
        what = reverse_of applied.receipt.change.what;
        slot = applied.receipt.change.slot.0;
      } ∷ trees_before kept.edits (undoes i))

  -- the session that is accepted
  abbrev pub session_accepted : PlainSession
  session_accepted =
      record (session_with (plain_session (record kept { program = program })) (roomless_tree program.tree) (plain_stop applied.stop)) {
        earlier =
            noted_trees (program_before applied (roomless_tree program.tree)) kept.edits (plain_stop kept.stop) (roomless_tree program.tree) applied;
      }

  pub edited_seen :
      session_accepted
      ≡ edited_session (plain_session kept) (roomless_tree program.tree) (plain_stop applied.stop) (option_map roomless_node applied.taken)
      applied.receipt.change.what applied.receipt.change.slot.0
  edited_seen =
      let run =
      kept_same (roomless_tree kept.program.tree).items (roomless_tree program.tree).items kept.run.undos kept.run.run some in
      λ i.
      record (plain_session kept) {
        tree = roomless_tree program.tree;
        stop = plain_stop applied.stop;
        run = option_map without_earlier (run i);
        earlier = earlier_noted i;
      }

  -- what comes of a command that edits at the cursor
  pub edited_is : (edit : PlainEdit)
      → edited (plain_session kept).tree (plain_session kept).stop edit
      ≡ Edited.became (roomless_tree program.tree) (plain_stop applied.stop) (option_map roomless_node applied.taken) applied.receipt.change.what
      applied.receipt.change.slot.0
      → edit_acceptance_outcome (plain_session kept).tree applied.receipt.change.what applied.receipt.change.slot.0 session_accepted
      ≡ edited_by (plain_session kept) edit
  unfolding edited_by
  edited_is edit became =
      ap (edit_acceptance_outcome (plain_session kept).tree applied.receipt.change.what applied.receipt.change.slot.0) edited_seen
      ∙ sym (ap (edit_outcome (plain_session kept)) became)

  -- and of one that cuts what stands there, of which this is the copy
  pub cut_is : (name : List ℕ) (clips : List (List ℕ × PlainFragment)) (copy : PlainFragment) (fragment : Option PlainFragment) (outcome : Edited)
      → Some copy ≡ option_map whole_fragment fragment
      → outcome
      ≡ Edited.became (roomless_tree program.tree) (plain_stop applied.stop) (option_map roomless_node applied.taken) applied.receipt.change.what
      applied.receipt.change.slot.0
      → clips ≡ with_clip name copy (plain_session kept).clips
      → edit_acceptance_outcome (plain_session kept).tree applied.receipt.change.what applied.receipt.change.slot.0
      (record session_accepted { clips = clips })
      ≡ cut_outcome (plain_session kept) name outcome fragment
  cut_is name clips copy None outcome copied became held = absurd (none-some copy (sym copied))
  cut_is name clips copy (Some fragment) outcome copied became held =
      let whole : copy ≡ whole_fragment fragment = same_Some copy (whole_fragment fragment) copied in
      let before = (plain_session kept).tree in
      let what = applied.receipt.change.what in
      let slot = applied.receipt.change.slot.0 in
      (λ i. edit_acceptance_outcome before what slot (record (edited_seen i) { clips = held i }))
      ∙ ((λ i.
      edit_acceptance_outcome before what slot
      (record
      (edited_session (plain_session kept) (roomless_tree program.tree) (plain_stop applied.stop) (option_map roomless_node applied.taken) what slot)
      { clips = with_clip name (whole i) (plain_session kept).clips }))
      ∙ sym (ap (λ (e : Edited). cut_outcome (plain_session kept) name e (Some fragment)) became))

-- ---- what is copied

-- what comes of copying what stands there into a clip, with which the clips are these
pub copy_is : (s : PlainSession) (name : List ℕ) (clips : List (List ℕ × PlainFragment)) (fragment : Option PlainFragment)
    → Some clips ≡ option_map (λ copy. with_clip name copy s.clips) (option_map whole_fragment fragment)
    → line_acceptance_outcome (record s { clips = clips }) ≡ copy_outcome s name fragment
copy_is s name clips None copied = absurd (none-some clips (sym copied))
copy_is s name clips (Some fragment) copied =
    ap (λ (held : List (List ℕ × PlainFragment)). line_acceptance_outcome (record s { clips = held }))
    (same_Some clips (with_clip name (whole_fragment fragment) s.clips) copied)

-- ---- an edit that is undone

module _ {W : Type 0} (kept : Session W) (program : Program W) (edits : List EditRecord) (stop : PlainStop)
    (went : GoesBackTo kept.edits (roomless_tree kept.program.tree) edits (roomless_tree program.tree) stop)
    (some : IfSome kept.run.run (λ run. IsSome run.kept)) where
  pub undone_is :
      edit_acceptance_outcome (plain_session kept).tree went.latest.what went.latest.slot
      (session_with (plain_session (record kept { program = program; edits = edits })) (roomless_tree program.tree) stop)
      ≡ undo_outcome (plain_session kept)
  undone_is =
      let run =
      kept_same (roomless_tree kept.program.tree).items (roomless_tree program.tree).items kept.run.undos kept.run.run some in
      let at = went.stop_is ∙ ap (λ (tree : PlainTree). stop_or_comment tree went.latest.stop) went.back in
      ap (edit_acceptance_outcome (plain_session kept).tree went.latest.what went.latest.slot)
      (λ i.
      record (plain_session kept) {
        tree = went.back i;
        stop = at i;
        run = option_map without_earlier (run i);
        earlier = trees_before edits (roomless_tree program.tree);
      })
      ∙ sym (ap (undone_to (plain_session kept)) went.earlier)

-- the key counts what undoing does
module _ {before now : PlainCounts} (s : PlainSession) where
  pub undone_counted : (earlier : List EarlierTree) → CountsBackTo earlier s.tree before now
      → CountsPressed (undone_to s earlier).checks (undone_to s earlier).emits (undone_to s earlier).fetches (undone_to s earlier).fetches before now
  undone_counted [] counts = key_counted 0 0 counts
  undone_counted (latest ∷ others) counts = key_counted _ _ counts

  -- and no more of anything where memory runs out
  pub undone_wanted : (earlier : List EarlierTree) → CountsBackTo earlier s.tree before now
      → CountsPressedAtMost (undone_to s earlier).checks (undone_to s earlier).emits (undone_to s earlier).fetches before now
  undone_wanted [] counts = want_counted 0 0 0 counts
  undone_wanted (latest ∷ others) counts = want_counted _ _ _ counts
