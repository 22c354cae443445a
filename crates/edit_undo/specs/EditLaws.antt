-- The laws of edits that can be undone: what noting one, a turned comment and going back leave of the trees before.
use Rattle.std.specs.Prelude.{◌≡◌, List, ℕ, ◌∷◌, ◌≤◌}
use Rattle.template_tree.specs.Edits.Edit.{whole}
use Rattle.template_tree.specs.Edits.Elision.{with_toggled_at}
use Rattle.template_tree.specs.Edits.Receipt.{undone}
use Rattle.template_tree.specs.Edits.Reversal.{Back, CanRevert, reverse_of}
use Rattle.template_tree.specs.Laws.CheckLaws.{CheckAlike}
use Rattle.template_tree.specs.Positions.Stop.{plain_stop}
use Rattle.template_tree.specs.Programs.PlainTree.{PlainTree}
use Rattle.template_tree.specs.Programs.Tree.{IsTree}
use Rattle.edit_undo.specs.EarlierTree.{RingFits, as_kept, trees_before}
use Rattle.edit_undo.specs.EditLimit.{edit_weight}
use Rattle.edit_undo.specs.declared.edit_record.EditRecord.{EditRecord}

-- an edit that was made is noted with these: the tree before it is the latest to which can be gone back, and those
-- before that stay
pub record IsNoted (before after : PlainTree) (edit : EditRecord) (edits : List EditRecord) : Type 0 where
  pub fits : RingFits (edit ∷ edits) after
  pub earlier :
      trees_before (edit ∷ edits) after
      ≡ record {
        tree = as_kept after before;
        stop = plain_stop edit.stop;
        weight = edit_weight edit.back;
        what = reverse_of edit.receipt.change.what;
        slot = edit.receipt.change.slot.0;
      } ∷ trees_before edits before

-- the law of an edit that was made: noted with the edits that fitted the tree before it, it fits the tree after it
abbrev pub EditsAreNoted : Type 0
EditsAreNoted =
    (before after : PlainTree) (edit : EditRecord) (edits : List EditRecord) → IsTree before → IsTree after
    → undone edit.receipt edit.back after ≡ before → CanRevert edit.receipt edit.back after
    → before.drawn ≤ after.drawn → RingFits edits before
    → IsNoted before after edit edits

-- the law of a turned comment: what can be undone stays so, and the trees before are as they were
abbrev pub TogglesLeaveEarlier : Type 0
TogglesLeaveEarlier =
    (tree : PlainTree) (path : List ℕ) (edits : List EditRecord) → IsTree tree → RingFits edits tree
    → RingFits edits (with_toggled_at path tree)
    × (trees_before edits (with_toggled_at path tree) ≡ trees_before edits tree)

-- an earlier tree that comes back has its slots, parts and order again, but for what is elided, and so checks alike
abbrev pub UndoneTreesCheckAlike : Type 0
UndoneTreesCheckAlike =
    (now earlier : PlainTree)
    → (whole (Back now earlier).items ≡ whole earlier.items) × CheckAlike (Back now earlier).items earlier.items
