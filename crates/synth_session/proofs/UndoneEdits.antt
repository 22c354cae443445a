-- undo and undo_edit: the cursor stands in the tree that comes back; once the newest edit is undone the others fit
-- the program, and a run that stood agrees with it and with the trees before.
use Rattle.std.proofs.Common.{◌≡◌, ℕ, List, [], ◌∷◌, length, arith, Option, Some, None, option_map, refl, sym, ap, subst, ◌∙◌}
use Rattle.std.proofs.lemmas.List.Elements.{All-head, All-tail}
use Rattle.std.specs.List.{All}
use Rattle.template_tree.specs.declared.change.What.{What}
use Rattle.template_tree.specs.Laws.RoomLaws.{NodesIgnoreRoom}
use Rattle.template_tree.specs.Positions.Path.{node_at}
use Rattle.template_tree.specs.Positions.Stop.{PlainStop, plain_stop}
use Rattle.template_tree.specs.Programs.PlainTree.{Forest, PlainNode, PlainTree, roomless, roomless_node, roomless_tree}
use Rattle.tree_steps.specs.AgreementLaws.{GoingBackAgrees}
use Rattle.tree_steps.specs.SlotAgreement.{AgreesWith}
use Rattle.edit_undo.specs.EarlierTree.{EarlierTree, RingFits, trees_before}
use Rattle.edit_undo.specs.EditLaws.{UndoneTreesCheckAlike}
use Rattle.edit_undo.specs.UndoneEdit.{UndoesNewest}
use Rattle.edit_undo.specs.declared.edit_record.EditRecord.{EditRecord}
use Rattle.edit_undo.specs.declared.undone.Undone.{Undone}
use Rattle.plcs_base.specs.PlainCounts.{PlainCounts}
use Rattle.synth_session.specs.CountedKey.{CountsProgram}
use Rattle.synth_session.specs.ProgramBill.{program_bill}
use Rattle.synth_session.specs.ProgramDue.{program_due}
use Rattle.synth_session.specs.Private.UndoneProgram.{CountsBackTo, CountsUndo, GoesBackTo}
use Rattle.synth_session.specs.SessionView.{AgreeInTurn, EditsFit, HasStop}
use Rattle.synth_session.specs.UndoCommand.{stop_or_comment}
use Rattle.synth_session.proofs.CountedPrograms.{program_free}
use Rattle.synth_session.proofs.EarlierAgreements.{AgreesBack, undone_back, undone_stood, undone_turn}
use Rattle.synth_session.proofs.NotedStops.{StandsIn, back_stop, kind_of, stands_as}

module _ (back : GoingBackAgrees) (undone : UndoneTreesCheckAlike) (before after : PlainTree) (edits left : List EditRecord) (stop : PlainStop)
    (went : GoesBackTo edits before left after stop) where
  pub left_fit : RingFits left after → EditsFit edits before → EditsFit left after
  left_fit fits fit =
      let earlier = trees_before left after in
      record {
        fits = fits;
        stops = All-tail HasStop went.latest earlier (subst (All HasStop) went.earlier fit.stops);
        agree =
            subst (λ (tree : PlainTree). AgreeInTurn tree earlier) (sym went.back)
            (undone_turn back undone before went.latest earlier (subst (AgreeInTurn before) went.earlier fit.agree));
      }

  pub left_stood : (stood : PlainTree) → AgreesWith stood before → AgreesBack stood before (trees_before edits before)
      → AgreesWith stood after × AgreesBack stood after (trees_before left after)
  left_stood stood agrees all =
      let earlier = trees_before left after in
      let there : AgreesBack stood before (went.latest ∷ earlier) = subst (AgreesBack stood before) went.earlier all in (
        subst (AgreesWith stood) (sym went.back) (undone_stood stood before went.latest earlier there),
        subst (λ (tree : PlainTree). AgreesBack stood tree earlier) (sym went.back) (undone_back back undone stood before went.latest earlier there),
      )

-- ---- the newest edit undone in the program

-- what stands there without room stands there
kinds_bare : (there : Option PlainNode) → option_map kind_of (option_map roomless_node there) ≡ option_map kind_of there
kinds_bare None = refl
kinds_bare (Some node) = refl

stands_with_room : NodesIgnoreRoom → (items : Forest) (stop : PlainStop) → StandsIn (roomless items) stop → StandsIn items stop
stands_with_room bare items stop stands =
    stands_as stop.part (node_at items stop.path) (node_at (roomless items) stop.path)
    (sym (ap (option_map kind_of) (bare items stop.path) ∙ kinds_bare (node_at items stop.path))) stands

module _ (before after : PlainTree) (edits left : List EditRecord) (told : Undone) (undoes : UndoesNewest edits before left after told) where
  -- the stop that is told stands in the program, shown or hidden
  pub told_stands : NodesIgnoreRoom → All HasStop (trees_before edits (roomless_tree before)) → StandsIn after.items (plain_stop told.stop)
  told_stands bare stops =
      let latest = undoes.latest in
      let stands : HasStop latest =
      All-head HasStop latest (trees_before left (roomless_tree after)) (subst (All HasStop) undoes.earlier stops) in
      stands_with_room bare after.items (plain_stop told.stop)
      (subst (StandsIn (roomless after.items)) (sym undoes.stop)
      (subst (λ (tree : PlainTree). StandsIn tree.items latest.stop) (sym undoes.back) (back_stop (roomless_tree before) latest stands)))

  -- the program goes back to the latest tree before it
  pub goes_back : (stop : PlainStop) → stop ≡ stop_or_comment (roomless_tree after) (plain_stop told.stop)
      → GoesBackTo edits (roomless_tree before) left (roomless_tree after) stop
  goes_back stop is =
      record {
        latest = undoes.latest;
        earlier = undoes.earlier;
        back = undoes.back;
        stop_is = is ∙ ap (stop_or_comment (roomless_tree after)) undoes.stop;
      }

  -- what is counted for the change that is told is what undoing counts, since that is kept of going back
  pub goes_back_counted : {counts_before counts_now : PlainCounts}
      → CountsProgram (program_due told.change.what told.change.slot.0 (roomless_tree before) (roomless_tree after))
      (program_bill told.change.what told.change.slot.0 (roomless_tree before) (roomless_tree after)) counts_before counts_now
      → CountsUndo edits (roomless_tree before) counts_before counts_now
  goes_back_counted {counts_before} {counts_now} counts =
      let latest = undoes.latest in
      subst (λ (earlier : List EarlierTree). CountsBackTo earlier (roomless_tree before) counts_before counts_now) (sym undoes.earlier)
      (subst
      (λ (tree : PlainTree).
      CountsProgram (program_due latest.what latest.slot (roomless_tree before) tree)
      (program_bill latest.what latest.slot (roomless_tree before) tree) counts_before counts_now)
      undoes.back
      (subst
      (λ (slot : ℕ).
      CountsProgram (program_due latest.what slot (roomless_tree before) (roomless_tree after))
      (program_bill latest.what slot (roomless_tree before) (roomless_tree after)) counts_before counts_now)
      undoes.slot
      (subst
      (λ (what : What).
      CountsProgram (program_due what told.change.slot.0 (roomless_tree before) (roomless_tree after))
      (program_bill what told.change.slot.0 (roomless_tree before) (roomless_tree after)) counts_before counts_now)
      undoes.what counts)))

  -- where one is undone some are held
  pub some_held : edits ≡ [] → ⊥
  some_held none =
      absurd
      (omega (
        arith,
        ap length (sym (ap (λ (e : List EditRecord). trees_before e (roomless_tree before)) none) ∙ undoes.earlier),
      ))

-- where no edits are held there is no tree to go back to
pub none_earlier : (edits : List EditRecord) (tree : PlainTree) → length edits ≡ 0 → trees_before edits tree ≡ []
none_earlier [] tree none = refl
none_earlier (edit ∷ edits) tree some = absurd (omega (arith, some))

-- nothing is counted where none is undone
pub none_counted : (counts : PlainCounts) (edits : List EditRecord) (tree : PlainTree) → CountsUndo edits tree counts counts
none_counted counts edits tree = by (trees_before edits tree)
  where
    by : (earlier : List EarlierTree) → CountsBackTo earlier tree counts counts
    by [] = program_free 0 0
    by (latest ∷ others) = program_free _ _
