-- What is answered to an edit at the stop of the cursor.
use Rattle.std.specs.Prelude.{◌≡◌, ◌≤◌, Bool, true, false, IsTrue, IfSome, is_none, option_map, Result, Ok, Err}
use Rattle.template_tree.specs.declared.tree_fault.TreeFault.{TreeFault}
use Rattle.template_tree.specs.Edits.Edit.{Differs}
use Rattle.template_tree.specs.Programs.PlainTree.{PlainTree, roomless_node, roomless_tree}
use Rattle.template_tree.specs.Programs.Program.{IsSubtree}
use Rattle.template_tree.specs.Edits.Receipt.{CanUndo, undone}
use Rattle.template_tree.specs.Edits.Reversal.{CanRevert}
use Rattle.template_tree.specs.Positions.Stop.{IsStop, PlainStop, plain_stop}
use Rattle.template_tree.specs.Programs.Tree.{IsTree}
use Rattle.session_edit.specs.declared.applied.Applied.{Applied}
use Rattle.session_edit.specs.PlainEdit.{PlainEdit}
use Rattle.session_edit.specs.Edited.{Edited}

-- an edit made one tree of the other, as was to come of it, with the cursor at a stop of the tree after it; the receipt
-- names what was done in which slot, undoes it, and reverts it
pub record IsApplied (outcome : Edited) (before after : PlainTree) (applied : Applied) : Type 0 where
  pub became :
      outcome
      ≡ Edited.became (roomless_tree after) (plain_stop applied.stop) (option_map roomless_node applied.taken)
      applied.receipt.change.what applied.receipt.change.slot.0
  pub tree : IsTree after
  pub stop : IsStop (roomless_tree after).items (plain_stop applied.stop)
  pub change : Differs (roomless_tree before) (roomless_tree after) applied.receipt.change
  pub undoes : undone applied.receipt applied.taken (roomless_tree after) ≡ roomless_tree before
  pub can_undo : CanUndo applied.receipt applied.taken after
  pub can_revert : CanRevert applied.receipt applied.taken (roomless_tree after)
  pub drawn : before.drawn ≤ after.drawn
  pub subtree : IfSome applied.taken IsSubtree

-- whether the edit takes memory at a stop: a phrase in a part, a fragment, and what is deleted or taken out take none
abbrev pub takes_memory : PlainEdit → PlainStop → Bool
takes_memory (PlainEdit.fill template) stop = true
takes_memory (PlainEdit.enter phrase) stop = is_none stop.part
takes_memory (PlainEdit.insert fragment) stop = false
takes_memory PlainEdit.delete stop = false
takes_memory PlainEdit.take stop = false
takes_memory (PlainEdit.beside side) stop = true

-- whether an edit at the stop of the cursor is answered to be made, and not refused
abbrev pub is_made : Edited → Bool
is_made (Edited.became tree stop taken what slot) = true
is_made (Edited.refused fault) = false

-- why an edit at a stop is refused, of which this was to come, and of which it is told whether it takes memory; where
-- memory is wanting, nothing else refuses the edit
abbrev pub IsRefused : Bool → Edited → TreeFault → Type 0
IsRefused takes_memory outcome TreeFault.OutOfMemory = IsTrue takes_memory × IsTrue (is_made outcome)
IsRefused takes_memory outcome fault = outcome ≡ Edited.refused fault

-- what is answered to an edit at a stop, of which it is told whether it takes memory and what was to come of it: it was
-- made, or it is refused and the tree is as before
abbrev pub IsAnswer : Bool → Edited → (before after : PlainTree) → Result Applied TreeFault → Type 0
IsAnswer takes_memory outcome before after (Ok applied) = IsApplied outcome before after applied
IsAnswer takes_memory outcome before after (Err fault) = IsRefused takes_memory outcome fault × (after ≡ before)
