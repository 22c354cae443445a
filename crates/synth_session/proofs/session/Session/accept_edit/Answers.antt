-- The edit is noted with the stop that the cursor leaves, so that the program before it is the latest to which can be
-- gone back; the run's history is let go of, and nothing else of the session changes.
use Rattle.std.proofs.Common.{◌≡◌, List, ◌∷◌, Option, [], ap, sym, subst, ◌∙◌}
use Rattle.plcs_store.specs.declared.run_state.Run.{Run}
use Rattle.plcs_store.specs.declared.undo.Undo.{Undo}
use Rattle.template_tree.specs.declared.stop.Stop.{Stop}
use Rattle.template_tree.specs.Edits.Reversal.{Before}
use Rattle.template_tree.specs.Positions.Stop.{plain_stop}
use Rattle.edit_undo.specs.EarlierTree.{EarlierTree, RingFits, earlier_tree, kept_trees, trees_before}
use Rattle.edit_undo.specs.declared.edit_record.EditRecord.{EditRecord}
use Rattle.synth_session.specs.EditCommands.{session_with}
use Rattle.synth_session.specs.KeyOutcome.{line_acceptance_outcome}
use Rattle.synth_session.specs.PlainSession.{PlainSession}
use Rattle.synth_session.specs.Private.EditedProgram.{noted_trees, program_before}
use Rattle.synth_session.specs.SessionView.{plain_session}
use Rattle.synth_session.proofs.AcceptedEdits.{forgotten_seen}
use Rattle.synth_session.proofs.FittingRuns.{FitsHeld, forgotten_may}
use Rattle.synth_session.proofs.NotedEdits.{noted_are, noted_fit}
use Rattle.synth_session.proofs.session.Session.accept_edit.Goals as goal

pub accept_line-requires-clause-run : goal.accept_line-requires-clause-run
accept_line-requires-clause-run g c =
    let s = c.args.self.now in
    let tree = (plain_session s).tree in
    let receipt = c.args.applied.receipt in
    let taken = c.args.applied.taken in
    let noted = noted_trees (program_before c.args.applied tree) s.edits (plain_session s).stop tree c.args.applied in
    let trees =
    subst
    (λ (at : Stop).
    let edit : EditRecord = record { receipt = receipt; back = taken; stop = at } in
    trees_before c.note.new.self tree ≡ kept_trees (earlier_tree edit tree ∷ trees_before s.edits (Before tree receipt taken)))
    c.replace-stop.ensures.value (c.note.ensures.earlier tree) in
    let are = noted_are c.edits_are_noted.ensures c.agreement_lasts.ensures.back c.agreement_lasts.ensures.elision c.agreement_lasts.ensures.edits
    c.undone_trees_check_alike.ensures tree s.edits s.stop c.args.applied
    ((c.room_is_not_shown.ensures.trees s.program.tree).0 c.requires.agrees.tree) c.requires.came c.note.new.self trees in
    subst (λ (earlier : List EarlierTree). FitsHeld tree earlier c.forget.new.self.undos c.forget.new.self.run) (sym are)
    (subst (λ (u : List Undo). FitsHeld tree noted u c.forget.new.self.run) (sym c.forget.ensures.undos)
    (subst (λ (h : Option Run). FitsHeld tree noted [] h) (sym c.forget.ensures.run)
    (forgotten_may tree noted s.run.undos s.run.run c.requires.run.0 c.requires.run.1)))

pub accept_line-requires-clause-edits : goal.accept_line-requires-clause-edits
accept_line-requires-clause-edits g c =
    let s = c.args.self.now in
    let tree = (plain_session s).tree in
    let receipt = c.args.applied.receipt in
    let taken = c.args.applied.taken in
    let trees =
    subst
    (λ (at : Stop).
    let edit : EditRecord = record { receipt = receipt; back = taken; stop = at } in
    trees_before c.note.new.self tree ≡ kept_trees (earlier_tree edit tree ∷ trees_before s.edits (Before tree receipt taken)))
    c.replace-stop.ensures.value (c.note.ensures.earlier tree) in
    let fits =
    subst
    (λ (at : Stop).
    let edit : EditRecord = record { receipt = receipt; back = taken; stop = at } in
    RingFits (edit ∷ s.edits) tree → RingFits c.note.new.self tree)
    c.replace-stop.ensures.value (c.note.ensures.fits tree) in
    noted_fit c.edits_are_noted.ensures c.agreement_lasts.ensures.back c.agreement_lasts.ensures.elision c.agreement_lasts.ensures.edits
    c.undone_trees_check_alike.ensures tree s.edits s.stop c.args.applied
    ((c.room_is_not_shown.ensures.trees s.program.tree).0 c.requires.agrees.tree) c.requires.came c.note.new.self trees fits

pub returns : goal.returns
returns g c =
    let s = c.args.self.now in
    let tree = (plain_session s).tree in
    let receipt = c.args.applied.receipt in
    let taken = c.args.applied.taken in
    let noted = noted_trees (program_before c.args.applied tree) s.edits (plain_session s).stop tree c.args.applied in
    let trees =
    subst
    (λ (at : Stop).
    let edit : EditRecord = record { receipt = receipt; back = taken; stop = at } in
    trees_before c.note.new.self tree ≡ kept_trees (earlier_tree edit tree ∷ trees_before s.edits (Before tree receipt taken)))
    c.replace-stop.ensures.value (c.note.ensures.earlier tree) in
    let are = noted_are c.edits_are_noted.ensures c.agreement_lasts.ensures.back c.agreement_lasts.ensures.elision c.agreement_lasts.ensures.edits
    c.undone_trees_check_alike.ensures tree s.edits s.stop c.args.applied
    ((c.room_is_not_shown.ensures.trees s.program.tree).0 c.requires.agrees.tree) c.requires.came c.note.new.self trees in
    let run = forgotten_seen tree.items s.run.undos c.forget.new.self.undos s.run.run c.forget.new.self.run c.forget.ensures.run c.forget.ensures.undos in
    let seen :
    plain_session (record s { run = c.forget.new.self; stop = c.replace-stop.new.dest; edits = c.note.new.self })
    ≡ record (session_with (plain_session s) tree (plain_stop c.args.applied.stop)) { earlier = noted } =
    λ i. record (plain_session s) { stop = plain_stop (c.replace-stop.ensures.after i); run = run i; earlier = are i } in
    record {
      session = c.accept_line.ensures.session;
      screens = c.accept_line.ensures.screens;
      after = c.accept_line.ensures.after ∙ ap (λ (t : PlainSession). (line_acceptance_outcome t).after) seen;
      answered = c.accept_line.ensures.answered;
    }
