-- A session whose program was edited, before the edit is noted.
use Rattle.std.specs.Prelude.{◌≤◌, List, ◌∷◌}
use Rattle.template_tree.specs.Edits.Receipt.{undone}
use Rattle.template_tree.specs.Edits.Reversal.{CanRevert, reverse_of}
use Rattle.template_tree.specs.Positions.Stop.{IsStop, PlainStop}
use Rattle.template_tree.specs.Programs.PlainTree.{PlainTree}
use Rattle.template_tree.specs.Programs.Tree.{IsTree}
use Rattle.tree_steps.specs.SlotAgreement.{AgreesWith}
use Rattle.edit_undo.specs.EarlierTree.{EarlierTree, as_kept, kept_trees, trees_before}
use Rattle.edit_undo.specs.EditLimit.{edit_weight}
use Rattle.edit_undo.specs.declared.edit_record.EditRecord.{EditRecord}
use Rattle.session_edit.specs.declared.applied.Applied.{Applied}
use Rattle.synth_session.specs.SessionView.{EditsFit}

-- the program before the edit that was applied to it, which made this tree of it
abbrev pub program_before : Applied → PlainTree → PlainTree
program_before applied tree = undone applied.receipt applied.taken tree

-- the edit that was applied led to this tree from the one before it, to which these edits led, and in which the
-- cursor stood at the stop; what agreed with that one by its slots agrees with this one
pub record CameFrom (edits : List EditRecord) (at : PlainStop) (tree : PlainTree) (applied : Applied) : Type 0 where
  pub is_tree : IsTree (program_before applied tree)
  pub stop : IsStop (program_before applied tree).items at
  pub can_revert : CanRevert applied.receipt applied.taken tree
  pub drawn : (program_before applied tree).drawn ≤ tree.drawn
  pub keeps : (earlier : PlainTree) → AgreesWith earlier (program_before applied tree) → AgreesWith earlier tree
  pub fits : EditsFit edits (program_before applied tree)

-- the tree before an edit that was applied, and led from it to the other, as it is kept to be gone back to
abbrev pub noted_before : (before : PlainTree) → PlainStop → (tree : PlainTree) → Applied → EarlierTree
noted_before before at tree applied = record {
  tree = as_kept tree before;
  stop = at;
  weight = edit_weight applied.taken;
  what = reverse_of applied.receipt.change.what;
  slot = applied.receipt.change.slot.0;
}

-- the earlier trees to which can be gone back once an edit that led from the one tree to the other is noted: the one
-- before it comes first, with the stop in it
abbrev pub noted_trees : (before : PlainTree) → List EditRecord → PlainStop → (tree : PlainTree) → Applied
    → List EarlierTree
noted_trees before edits at tree applied =
    kept_trees (noted_before before at tree applied ∷ trees_before edits before)
