-- What becomes of a tree and a ring of edits where the newest is undone, and where it is put back.
use Rattle.std.specs.Prelude.{◌≡◌, ◌+◌, ◌<◌, ◌≤◌, List, ◌∷◌, length}
use Rattle.template_tree.specs.Edits.Edit.{Differs}
use Rattle.template_tree.specs.Edits.Receipt.{HasRoomBack, list_room}
use Rattle.template_tree.specs.Edits.Reversal.{Back, Before, CanRevert, given_out}
use Rattle.template_tree.specs.Positions.Stop.{plain_stop}
use Rattle.template_tree.specs.Programs.PlainTree.{PlainTree, roomless_tree}
use Rattle.edit_undo.specs.EarlierTree.{EarlierTree, trees_before}
use Rattle.edit_undo.specs.EditLimit.{edit_weight, edits_weight, most_edits, most_taken_slots}
use Rattle.edit_undo.specs.declared.edit_record.EditRecord.{EditRecord}
use Rattle.edit_undo.specs.declared.undone.Undone.{Undone}

-- the newest of these edits was undone: the latest earlier tree came back, and those before it are left. What is told
-- of it says how the two trees differ, by what is kept of going back, and where the cursor stood, and puts both back
pub record UndoesNewest (edits : List EditRecord) (before : PlainTree) (left : List EditRecord) (after : PlainTree)
    (told : Undone) : Type 0 where
  pub latest : EarlierTree
  pub earlier :
      trees_before edits (roomless_tree before) ≡ latest ∷ trees_before left (roomless_tree after)
  pub back : roomless_tree after ≡ Back (roomless_tree before) latest.tree
  pub stop : plain_stop told.stop ≡ latest.stop
  pub change : Differs (roomless_tree before) (roomless_tree after) told.change
  pub what : told.change.what ≡ latest.what
  pub slot : told.change.slot.0 ≡ latest.slot
  pub same_change : told.receipt.change ≡ told.change
  pub again : Before (roomless_tree after) told.receipt told.back ≡ roomless_tree before
  pub drawn : told.receipt.drawn ≡ latest.tree.drawn
  pub weight : edit_weight (given_out told.receipt told.back (roomless_tree after)) ≡ latest.weight

-- what an undoing told can be put back into the ring of these edits and the tree: it fits the tree, and there is room
-- in both
pub record MayPutBack (edits : List EditRecord) (tree : PlainTree) (told : Undone) : Type 0 where
  pub fits : CanRevert told.receipt told.back (roomless_tree tree)
  pub room : HasRoomBack told.receipt.undoing (list_room tree.spare tree.items told.receipt.path)
  pub few : length edits < most_edits
  pub light :
      edits_weight edits + edit_weight (given_out told.receipt told.back (roomless_tree tree)) ≤ most_taken_slots
