-- A session whose next screen was drawn, with lines of its program that came to be held.
use Rattle.std.proofs.Common.{◌≡◌, List, ap, sym, subst, ◌∙◌, option_map}
use Rattle.template_tree.specs.Programs.PlainTree.{PlainTree, roomless_tree}
use Rattle.edit_undo.specs.EarlierTree.{trees_before}
use Rattle.edit_undo.specs.declared.edit_record.EditRecord.{EditRecord}
use Rattle.screen_window.specs.PlainGrid.{PlainGrid}
use Rattle.synth_session.specs.declared.program.Dependents.{Dependents}
use Rattle.synth_session.specs.declared.program.Program.{Program}
use Rattle.synth_session.specs.declared.session.Session.{Session}
use Rattle.synth_session.specs.PlainHeldRun.{PlainHeldRun}
use Rattle.synth_session.specs.PlainScreens.{PlainScreens}
use Rattle.synth_session.specs.SessionView.{Agrees, EditsFit, HasFittingEdits, HasFittingRun, HasProgramCode, IsCodeFor, IsPlaced, IsSeen, IsSession, plain_run, plain_session}
use Rattle.synth_session.proofs.KeptRuns.{MayGoOnIfStands}

-- the run that is held, if one stands, may be asked whether it goes on in the program to which these edits led
abbrev MayGoOnAfter : PlainTree → List EditRecord → PlainHeldRun → Type 0
MayGoOnAfter tree edits held =
    MayGoOnIfStands (roomless_tree tree) (trees_before edits (roomless_tree tree)) held.undos held.run

module _ {W : Type 0} where
  -- with another screen to be painted next, and a program of the same tree, a session is seen the same
  pub drawn_same : (s : Session W) (screens : PlainScreens) (program : Program W) → program.tree ≡ s.program.tree
      → screens.shown ≡ s.screens.shown → plain_session (record s { screens = screens; program = program }) ≡ plain_session s
  drawn_same s screens program tree shown =
      ap (λ (t : PlainTree).
      record (plain_session (record s { screens = screens })) {
        tree = roomless_tree t;
        run = option_map (plain_run (roomless_tree t).items s.run.undos) s.run.run;
        earlier = trees_before s.edits (roomless_tree t);
      }) tree
      ∙ ap (λ (g : PlainGrid). record (plain_session s) { size = record { rows = g.rows; cols = g.cols } }) shown

  -- one that is seen the same keeps the conditions between its parts, where its program agrees
  pub drawn_session : (old now : Session W) → Agrees now.program → plain_session now ≡ plain_session old → IsSession old → IsSession now
  drawn_session old now agrees same is =
      record {
        agrees = agrees;
        placed = subst IsPlaced (sym same) is.placed;
        seen = subst IsSeen (sym same) is.seen;
      }

  -- its code is that of its program
  pub drawn_code : (old now : Session W) → now.program.tree ≡ old.program.tree → now.program.dependents ≡ old.program.dependents
      → HasProgramCode old → HasProgramCode now
  drawn_code old now tree dependents code =
      subst (λ (d : Dependents W). IsCodeFor d.code (roomless_tree now.program.tree)) (sym dependents)
      (subst (λ (t : PlainTree). IsCodeFor old.program.dependents.code (roomless_tree t)) (sym tree) code)

  -- its run may go on as before
  pub drawn_run : (old now : Session W) → now.program.tree ≡ old.program.tree → now.run ≡ old.run → now.edits ≡ old.edits
      → HasFittingRun old → HasFittingRun now
  drawn_run old now tree run edits fits =
      subst (λ (e : List EditRecord). MayGoOnAfter now.program.tree e now.run) (sym edits)
      (subst (λ (r : PlainHeldRun). MayGoOnAfter now.program.tree old.edits r) (sym run)
      (subst (λ (t : PlainTree). MayGoOnAfter t old.edits old.run) (sym tree) fits))

  -- and its edits can be undone as before
  pub drawn_edits : (old now : Session W) → now.program.tree ≡ old.program.tree → now.edits ≡ old.edits → HasFittingEdits old
      → HasFittingEdits now
  drawn_edits old now tree edits fit =
      subst (λ (e : List EditRecord). EditsFit e (roomless_tree now.program.tree)) (sym edits)
      (subst (λ (t : PlainTree). EditsFit old.edits (roomless_tree t)) (sym tree) fit)
