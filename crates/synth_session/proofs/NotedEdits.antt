-- accept_edit, edit and cut: an edit that was applied, and is noted, fits the program with the edits before it.
use Rattle.std.proofs.Common.{◌≡◌, ◌≤◌, List, [], ◌∷◌, refl, sym, ap, subst, ◌∙◌}
use Rattle.std.proofs.lemmas.List.Elements.{All-cons, All-nil}
use Rattle.std.specs.List.{All}
use Rattle.template_tree.specs.Edits.Receipt.{undone}
use Rattle.template_tree.specs.Edits.Reversal.{Before, CanRevert}
use Rattle.template_tree.specs.Laws.RoomLaws.{RoomGoesOnce, TreesIgnoreRoom}
use Rattle.template_tree.specs.Positions.Stop.{IsStop, PlainStop, plain_stop}
use Rattle.template_tree.specs.declared.stop.Stop.{Stop}
use Rattle.template_tree.specs.Programs.PlainTree.{PlainTree, roomless_tree}
use Rattle.template_tree.specs.Programs.Tree.{IsTree}
use Rattle.tree_steps.specs.AgreementLaws.{EarlierAgreesAlike, EditStepsKeepAgreement, EditsAgree, GoingBackAgrees}
use Rattle.tree_steps.specs.EditStep.{IsEditStep}
use Rattle.tree_steps.specs.EditStepLaws.{RoomIsNoEdit}
use Rattle.tree_steps.specs.SlotAgreement.{AgreesWith}
use Rattle.edit_undo.specs.EarlierTree.{EarlierTree, RingFits, earlier_tree, kept_trees, trees_before}
use Rattle.edit_undo.specs.EditLaws.{EditsAreNoted, IsNoted, UndoneTreesCheckAlike}
use Rattle.edit_undo.specs.declared.edit_record.EditRecord.{EditRecord}
use Rattle.session_edit.specs.declared.applied.Applied.{Applied}
use Rattle.synth_session.specs.Private.EditedProgram.{CameFrom, noted_before, noted_trees, program_before}
use Rattle.synth_session.specs.SessionView.{AgreeInTurn, EditsFit, HasStop}
use Rattle.synth_session.proofs.EarlierAgreements.{AgreesBack, kept_all, noted_back, noted_turn, step_agrees}
use Rattle.synth_session.proofs.NotedStops.{kept_stop}

-- ---- no edit

-- where no edit is held, all fit, as in a new program and in one that was loaded
pub none_fit : (edits : List EditRecord) (tree : PlainTree) → edits ≡ [] → EditsFit edits tree
none_fit edits tree none =
    subst (λ (held : List EditRecord). EditsFit held tree) (sym none) (record { fits = tt; stops = All-nil HasStop; agree = tt })

-- ---- an edit that was applied

-- what is known of the program before an edit that was applied holds of the one that it undoes to
pub came_from : GoingBackAgrees → EditStepsKeepAgreement → RoomGoesOnce → TreesIgnoreRoom → RoomIsNoEdit → (before after : PlainTree)
    (edits : List EditRecord) (at : PlainStop) (applied : Applied) → IsTree before → IsStop (roomless_tree before).items at
    → undone applied.receipt applied.taken (roomless_tree after) ≡ roomless_tree before
    → CanRevert applied.receipt applied.taken (roomless_tree after) → before.drawn ≤ after.drawn → IsEditStep before after
    → EditsFit edits (roomless_tree before) → CameFrom edits at (roomless_tree after) applied
came_from back steps once trees no_edit before after edits at applied is stop undoes can drawn step fit =
    let was = sym undoes in
    record {
      is_tree = subst IsTree was ((trees before).0 is);
      stop = subst (λ (tree : PlainTree). IsStop tree.items at) was stop;
      can_revert = can;
      drawn = subst (λ (tree : PlainTree). tree.drawn ≤ after.drawn) was drawn;
      keeps =
          subst (λ (tree : PlainTree). (earlier : PlainTree) → AgreesWith earlier tree → AgreesWith earlier (roomless_tree after)) was
          (step_agrees back steps once no_edit before after step);
      fits = subst (EditsFit edits) was fit;
    }

-- a run that stood agrees with the program after the edit, and with those to which can be gone back then
pub stood_noted : GoingBackAgrees → UndoneTreesCheckAlike → (tree : PlainTree) (edits : List EditRecord) (at : PlainStop) (applied : Applied)
    → CameFrom edits at tree applied → (stood : PlainTree) → AgreesWith stood (program_before applied tree)
    → AgreesBack stood (program_before applied tree) (trees_before edits (program_before applied tree))
    → AgreesWith stood tree × AgreesBack stood tree (noted_trees (program_before applied tree) edits at tree applied)
stood_noted back undone tree edits at applied came stood agrees all =
    let before = program_before applied tree in
    let latest : EarlierTree = noted_before before at tree applied in
    (came.keeps stood agrees, noted_back back undone stood before tree agrees came.drawn latest refl (trees_before edits before) all)

-- ---- an edit that is noted

module _ (law : EditsAreNoted) (back : GoingBackAgrees) (alike : EarlierAgreesAlike) (agree : EditsAgree) (undone_alike : UndoneTreesCheckAlike)
    (tree : PlainTree) (edits : List EditRecord) (stop : Stop) (applied : Applied) (is_tree : IsTree tree)
    (came : CameFrom edits (plain_stop stop) tree applied) (edits_now : List EditRecord) where
  -- the record of the edit
  abbrev pub record_of : EditRecord
  record_of = record { receipt = applied.receipt; back = applied.taken; stop = stop }

  is_noted : IsNoted (program_before applied tree) tree record_of edits
  is_noted =
      law (program_before applied tree) tree record_of edits came.is_tree is_tree refl came.can_revert came.drawn came.fits.fits

  module _
      (trees :
      trees_before edits_now tree
      ≡ kept_trees (earlier_tree record_of tree ∷ trees_before edits (Before tree record_of.receipt record_of.back))) where
    -- the trees to which can be gone back then
    pub noted_are : trees_before edits_now tree ≡ noted_trees (program_before applied tree) edits (plain_stop stop) tree applied
    noted_are = trees ∙ ap kept_trees is_noted.earlier

    -- and all fit
    pub noted_fit : (RingFits (record_of ∷ edits) tree → RingFits edits_now tree) → EditsFit edits_now tree
    noted_fit fits =
        let before = program_before applied tree in
        let earlier = trees_before edits before in
        let latest : EarlierTree = noted_before before (plain_stop stop) tree applied in
        record {
          fits = fits is_noted.fits;
          stops =
              subst (All HasStop) (sym noted_are)
              (kept_all HasStop (latest ∷ earlier)
              (All-cons HasStop latest earlier (kept_stop tree before (plain_stop stop) came.stop) came.fits.stops));
          agree =
              subst (AgreeInTurn tree) (sym noted_are)
              (noted_turn back alike agree undone_alike before tree came.is_tree came.keeps came.drawn latest refl earlier came.fits.agree);
        }
