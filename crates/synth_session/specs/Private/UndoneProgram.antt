-- What comes of undoing the newest edit in the program.
use Rattle.std.specs.Prelude.{◌≡◌, List, [], ◌∷◌}
use Rattle.plcs_base.specs.PlainCounts.{PlainCounts}
use Rattle.template_tree.specs.Edits.Reversal.{Back}
use Rattle.template_tree.specs.Positions.Stop.{PlainStop}
use Rattle.template_tree.specs.Programs.PlainTree.{PlainTree}
use Rattle.edit_undo.specs.EarlierTree.{EarlierTree, trees_before}
use Rattle.edit_undo.specs.declared.edit_record.EditRecord.{EditRecord}
use Rattle.synth_session.specs.CountedKey.{CountsProgram}
use Rattle.synth_session.specs.ProgramBill.{program_bill}
use Rattle.synth_session.specs.ProgramDue.{program_due}
use Rattle.synth_session.specs.UndoCommand.{stop_or_comment}

-- the program went back to the latest tree before it, with the cursor where it stood in that, or at the comment that
-- hides it; the others are left before it
pub record GoesBackTo (edits_old : List EditRecord) (before : PlainTree) (edits_new : List EditRecord)
    (after : PlainTree) (stop : PlainStop) : Type 0 where
  pub latest : EarlierTree
  pub earlier : trees_before edits_old before ≡ latest ∷ trees_before edits_new after
  pub back : after ≡ Back before latest.tree
  pub stop_is : stop ≡ stop_or_comment after latest.stop

-- what is counted where the program goes back to the latest of these earlier trees, if there is one: no more than for
-- an edit that did what going back does
abbrev pub CountsBackTo : List EarlierTree → PlainTree → (before now : PlainCounts) → Type 0
CountsBackTo [] tree before now = CountsProgram 0 0 before now
CountsBackTo (latest ∷ others) tree before now =
    CountsProgram (program_due latest.what latest.slot tree (Back tree latest.tree))
    (program_bill latest.what latest.slot tree (Back tree latest.tree)) before now

-- what is counted where the newest edit is undone in the program
abbrev pub CountsUndo : List EditRecord → PlainTree → (before now : PlainCounts) → Type 0
CountsUndo edits tree before now = CountsBackTo (trees_before edits tree) tree before now
