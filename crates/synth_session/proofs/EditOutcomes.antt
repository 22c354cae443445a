-- edit, cut and undo_edit: what comes of a key whose edit is made or refused, and what is counted in it, by what came
-- of the edit.
use Rattle.std.proofs.Common.{◌≡◌, ◌+◌, ◌<◌, ◌≤◌, ℕ, List, Option, Some, None, option_map, true, refl, sym, ap, subst, ◌∙◌}
use Rattle.std.specs.Prelude.{Ok}
use Rattle.plcs_base.specs.PlainCounts.{PlainCounts}
use Rattle.clip_store.specs.PlainClips.{PlainClips}
use Rattle.clip_store.specs.PlainFragment.{PlainFragment}
use Rattle.template_tree.specs.declared.tree_fault.TreeFault.{TreeFault}
use Rattle.template_tree.specs.Positions.Stop.{IsStop, line_at, plain_stop}
use Rattle.template_tree.specs.Programs.PlainTree.{PlainTree, roomless_tree}
use Rattle.session_edit.specs.Edited.{Edited, edited}
use Rattle.session_edit.specs.PlainEdit.{PlainEdit}
use Rattle.screen_window.specs.Screen.{window_rows}
use Rattle.synth_session.specs.declared.answer.Answer.{Answer}
use Rattle.synth_session.specs.declared.answer.Refusal.{Refusal}
use Rattle.synth_session.specs.declared.program.Program.{Program}
use Rattle.synth_session.specs.declared.session.Session.{Session}
use Rattle.synth_session.specs.ClipCommands.{cut_outcome}
use Rattle.synth_session.specs.CountedKey.{CountsPressed, CountsPressedAtMost}
use Rattle.synth_session.specs.EditCommands.{edit_outcome, edit_refusal, edited_by}
use Rattle.synth_session.specs.KeyOutcome.{KeyOutcome, refusal_outcome}
use Rattle.synth_session.specs.PlainSession.{PlainSession}
use Rattle.synth_session.specs.Private.Faults.{CountsEdit, IsEditFault}
use Rattle.synth_session.specs.Private.MemorylessKey.{HasOutcome}
use Rattle.std.specs.List.{All}
use Rattle.edit_undo.specs.EarlierTree.{EarlierTree, RingFits, trees_before}
use Rattle.edit_undo.specs.declared.edit_record.EditRecord.{EditRecord}
use Rattle.synth_session.specs.SessionView.{AgreeInTurn, Agrees, Does, EditsFit, HasCode, HasStop, IsReadyForKey, plain_run, plain_session}
use Rattle.synth_session.proofs.CountedPrograms.{key_counted, key_free}
use Rattle.synth_session.proofs.KeptRuns.{MayGoOnIfStands}
use Rattle.synth_session.proofs.WantedCounts.{want_counted, want_free}

-- ---- an edit that is refused

-- where an edit is refused, but for want of memory, so is its key
pub edit_refused : (s : PlainSession) (outcome : Edited) (fault : TreeFault) → IsEditFault outcome fault → (fault ≡ TreeFault.OutOfMemory → ⊥)
    → edit_outcome s outcome ≡ refusal_outcome s (edit_refusal fault)
edit_refused s outcome TreeFault.NotHere is other = ap (edit_outcome s) is
edit_refused s outcome TreeFault.TooDeep is other = ap (edit_outcome s) is
edit_refused s outcome TreeFault.TooLarge is other = ap (edit_outcome s) is
edit_refused s outcome TreeFault.SlotsUsedUp is other = ap (edit_outcome s) is
edit_refused s outcome TreeFault.OutOfMemory is other = absurd (other refl)

pub cut_refused : (s : PlainSession) (name : List ℕ) (fragment : Option PlainFragment) (outcome : Edited) (fault : TreeFault)
    → IsEditFault outcome fault → (fault ≡ TreeFault.OutOfMemory → ⊥)
    → cut_outcome s name outcome fragment ≡ refusal_outcome s (edit_refusal fault)
cut_refused s name fragment outcome TreeFault.NotHere is other = ap (λ (e : Edited). cut_outcome s name e fragment) is
cut_refused s name fragment outcome TreeFault.TooDeep is other = ap (λ (e : Edited). cut_outcome s name e fragment) is
cut_refused s name fragment outcome TreeFault.TooLarge is other = ap (λ (e : Edited). cut_outcome s name e fragment) is
cut_refused s name fragment outcome TreeFault.SlotsUsedUp is other = ap (λ (e : Edited). cut_outcome s name e fragment) is
cut_refused s name fragment outcome TreeFault.OutOfMemory is other = absurd (other refl)

-- so for a command that edits at the cursor
pub edited_refused : (s : PlainSession) (edit : PlainEdit) (fault : TreeFault) → IsEditFault (edited s.tree s.stop edit) fault
    → (fault ≡ TreeFault.OutOfMemory → ⊥) → edited_by s edit ≡ refusal_outcome s (edit_refusal fault)
unfolding edited_by
edited_refused s edit fault is other = edit_refused s (edited s.tree s.stop edit) fault is other

-- a key did this where it is refused so, in a session that is seen the same
pub refusal_does : {W : Type 0} (old kept now : Session W) (answer : Answer) (outcome : KeyOutcome) (reason : Refusal) (fault : TreeFault)
    → reason ≡ edit_refusal fault → outcome ≡ refusal_outcome (plain_session old) (edit_refusal fault)
    → plain_session kept ≡ plain_session old → kept.screens ≡ old.screens
    → HasOutcome (refusal_outcome (plain_session kept) reason) kept now answer → Does true outcome old now (Ok answer)
refusal_does old kept now answer outcome reason fault so is same screens has =
    let whole : refusal_outcome (plain_session kept) reason ≡ outcome =
    ap (λ (s : PlainSession). refusal_outcome s reason) same ∙ ap (refusal_outcome (plain_session old)) so ∙ sym is in
    record {
      session = has.session;
      screens = has.screens ∙ screens;
      met = (has.after ∙ ap (λ (o : KeyOutcome). o.after) whole, has.answered ∙ ap (λ (o : KeyOutcome). o.answer) whole);
    }

-- ---- a program that stayed but for room

module _ {W : Type 0} where
  -- a session whose program came to be the same without room is seen the same
  pub seen_without_room : (s : Session W) (program : Program W) → roomless_tree program.tree ≡ roomless_tree s.program.tree
      → plain_session (record s { program = program }) ≡ plain_session s
  seen_without_room s program same =
      ap
      (λ (t : PlainTree).
      record (plain_session s) {
        tree = t;
        run = option_map (plain_run t.items s.run.undos) s.run.run;
        earlier = trees_before s.edits t;
      })
      same

  -- a session with other clips keeps its conditions
  pub ready_with_clips : (s : Session W) (clips : PlainClips) → IsReadyForKey s → IsReadyForKey (record s { clips = clips })
  ready_with_clips s clips ready =
      record {
        session = record {
          agrees = ready.session.agrees;
          placed = record { stop = ready.session.placed.stop; top = ready.session.placed.top };
          seen = record { from = ready.session.seen.from; to = ready.session.seen.to };
        };
        code = ready.code;
        run = ready.run;
        edits = ready.edits;
      }

  -- so does one whose program came to be the same without room, where what depends on the program is that of the program
  pub ready_without_room : (s : Session W) (program : Program W) → Agrees program → HasCode program
      → roomless_tree program.tree ≡ roomless_tree s.program.tree → IsReadyForKey s → IsReadyForKey (record s { program = program })
  ready_without_room s program agrees code same ready =
      let back = sym same in
      record {
        session = record {
          agrees = agrees;
          placed = record {
            stop = subst (λ (t : PlainTree). IsStop t.items (plain_stop s.stop)) back ready.session.placed.stop;
            top = ready.session.placed.top;
          };
          seen = record {
            from = subst (λ (t : PlainTree). s.top ≤ line_at t.items (plain_stop s.stop)) back ready.session.seen.from;
            to = subst (λ (t : PlainTree). line_at t.items (plain_stop s.stop) < s.top + window_rows s.screens.shown.rows) back ready.session.seen.to;
          };
        };
        code = code;
        run = subst (λ (t : PlainTree). MayGoOnIfStands t (trees_before s.edits t) s.run.undos s.run.run) back ready.run;
        edits = subst (EditsFit s.edits) back ready.edits;
      }

  -- a session whose program came to be the same without room, and whose edits lead back to the same earlier trees, is
  -- seen the same
  pub seen_put_back : (s : Session W) (program : Program W) (edits : List EditRecord)
      → roomless_tree program.tree ≡ roomless_tree s.program.tree
      → trees_before edits (roomless_tree program.tree) ≡ trees_before s.edits (roomless_tree s.program.tree)
      → plain_session (record s { program = program; edits = edits }) ≡ plain_session s
  seen_put_back s program edits same earlier = λ i.
      record (plain_session s) {
        tree = same i;
        run = option_map (plain_run (same i).items s.run.undos) s.run.run;
        earlier = earlier i;
      }

  -- and keeps its conditions
  pub ready_put_back : (s : Session W) (program : Program W) (edits : List EditRecord) → Agrees program → HasCode program
      → RingFits edits (roomless_tree program.tree) → roomless_tree program.tree ≡ roomless_tree s.program.tree
      → trees_before edits (roomless_tree program.tree) ≡ trees_before s.edits (roomless_tree s.program.tree)
      → IsReadyForKey s → IsReadyForKey (record s { program = program; edits = edits })
  ready_put_back s program edits agrees code fits same earlier ready =
      let back = sym same in
      let before = sym earlier in
      let tree = roomless_tree program.tree in
      let trees = trees_before s.edits (roomless_tree s.program.tree) in
      record {
        session = record {
          agrees = agrees;
          placed = record {
            stop = subst (λ (t : PlainTree). IsStop t.items (plain_stop s.stop)) back ready.session.placed.stop;
            top = ready.session.placed.top;
          };
          seen = record {
            from = subst (λ (t : PlainTree). s.top ≤ line_at t.items (plain_stop s.stop)) back ready.session.seen.from;
            to = subst (λ (t : PlainTree). line_at t.items (plain_stop s.stop) < s.top + window_rows s.screens.shown.rows) back ready.session.seen.to;
          };
        };
        code = code;
        run =
            subst (λ (others : List EarlierTree). MayGoOnIfStands tree others s.run.undos s.run.run) before
            (subst (λ (t : PlainTree). MayGoOnIfStands t trees s.run.undos s.run.run) back ready.run);
        edits = record {
          fits = fits;
          stops = subst (All HasStop) before ready.edits.stops;
          agree = subst (AgreeInTurn tree) before (subst (λ (t : PlainTree). AgreeInTurn t trees) back ready.edits.agree);
        };
      }

-- ---- what is counted

module _ {before now : PlainCounts} where
  -- the key counts what its edit does
  pub edit_counted : (s : PlainSession) (outcome : Edited) → CountsEdit s.tree outcome before now
      → CountsPressed (edit_outcome s outcome).checks (edit_outcome s outcome).emits (edit_outcome s outcome).fetches (edit_outcome s outcome).fetches
      before now
  edit_counted s (Edited.became tree stop taken what slot) counts = key_counted _ _ counts
  edit_counted s (Edited.refused fault) counts = subst (λ (c : PlainCounts). CountsPressed 0 0 0 0 before c) (sym counts) (key_free 0 0)

  pub edit_wanted : (s : PlainSession) (outcome : Edited) → CountsEdit s.tree outcome before now
      → CountsPressedAtMost (edit_outcome s outcome).checks (edit_outcome s outcome).emits (edit_outcome s outcome).fetches before now
  edit_wanted s (Edited.became tree stop taken what slot) counts = want_counted _ _ _ counts
  edit_wanted s (Edited.refused fault) counts = subst (λ (c : PlainCounts). CountsPressedAtMost 0 0 0 before c) (sym counts) (want_free 0 0 0)

  pub edited_counted : (s : PlainSession) (edit : PlainEdit) → CountsEdit s.tree (edited s.tree s.stop edit) before now
      → CountsPressed (edited_by s edit).checks (edited_by s edit).emits (edited_by s edit).fetches (edited_by s edit).fetches before now
  unfolding edited_by
  edited_counted s edit counts = edit_counted s (edited s.tree s.stop edit) counts

  pub edited_wanted : (s : PlainSession) (edit : PlainEdit) → CountsEdit s.tree (edited s.tree s.stop edit) before now
      → CountsPressedAtMost (edited_by s edit).checks (edited_by s edit).emits (edited_by s edit).fetches before now
  unfolding edited_by
  edited_wanted s edit counts = edit_wanted s (edited s.tree s.stop edit) counts

  -- so does a key that cuts what stands there
  pub cut_counted : (s : PlainSession) (name : List ℕ) (outcome : Edited) (fragment : Option PlainFragment) → (None ≡ fragment → ⊥)
      → CountsEdit s.tree outcome before now
      → CountsPressed (cut_outcome s name outcome fragment).checks (cut_outcome s name outcome fragment).emits
      (cut_outcome s name outcome fragment).fetches (cut_outcome s name outcome fragment).fetches before now
  cut_counted s name (Edited.became tree stop taken what slot) None some counts = absurd (some refl)
  cut_counted s name (Edited.became tree stop taken what slot) (Some fragment) some counts = key_counted _ _ counts
  cut_counted s name (Edited.refused fault) fragment some counts =
      subst (λ (c : PlainCounts). CountsPressed 0 0 0 0 before c) (sym counts) (key_free 0 0)

  pub cut_wanted : (s : PlainSession) (name : List ℕ) (outcome : Edited) (fragment : Option PlainFragment) → (None ≡ fragment → ⊥)
      → CountsEdit s.tree outcome before now
      → CountsPressedAtMost (cut_outcome s name outcome fragment).checks (cut_outcome s name outcome fragment).emits
      (cut_outcome s name outcome fragment).fetches before now
  cut_wanted s name (Edited.became tree stop taken what slot) None some counts = absurd (some refl)
  cut_wanted s name (Edited.became tree stop taken what slot) (Some fragment) some counts = want_counted _ _ _ counts
  cut_wanted s name (Edited.refused fault) fragment some counts =
      subst (λ (c : PlainCounts). CountsPressedAtMost 0 0 0 before c) (sym counts) (want_free 0 0 0)
