-- What becomes of a tree where what an edit took away comes back, before the counts are set.
use Rattle.std.specs.Prelude.{◌≡◌, ℕ, ◌+◌, List, Option, IsSomeAnd, option_map}
use Rattle.template_tree.specs.Edits.Receipt.{HasRoomBack, PlainUndoing, items_before, list_room}
use Rattle.template_tree.specs.Edits.Reversal.{IsUndoneIn, coming, comments, out_by, reverse_of, what_undone}
use Rattle.template_tree.specs.Positions.Path.{node_at}
use Rattle.template_tree.specs.Programs.PlainTree.{PlainNode, PlainTree, roomless_node, roomless_tree}
use Rattle.template_tree.specs.Private.Restored.{with_edit}

-- what comes back by the undoing of an edit at the path was exchanged for what was there, with the node that was
-- handed in; how that is undone again is told, in the same slot, and there is room for it. The comments in the tree
-- and out of it are the same together
pub record IsExchanged (path : List ℕ) (undoing : PlainUndoing) (back : Option PlainNode) (before after : PlainTree)
    (path_back : List ℕ) (undoing_back : PlainUndoing) (out : Option PlainNode) : Type 0 where
  pub became : roomless_tree after ≡ with_edit (items_before undoing back) path (roomless_tree before)
  pub again :
      with_edit (items_before undoing_back out) path_back (roomless_tree after)
      ≡ roomless_tree before
  pub what : what_undone undoing_back ≡ reverse_of (what_undone undoing)
  pub in_slot :
      (slot : ℕ) → IsSomeAnd (node_at (roomless_tree before).items path) (IsUndoneIn slot undoing back)
      → IsSomeAnd (node_at (roomless_tree after).items path_back)
      (IsUndoneIn slot undoing_back out)
  pub comments_stay :
      (slot : ℕ) → comments slot (roomless_tree after).items
      + comments slot (coming undoing_back out)
      ≡ comments slot (roomless_tree before).items + comments slot (coming undoing back)
  pub room : HasRoomBack undoing_back (list_room after.spare after.items path_back)
  pub out_is :
      option_map roomless_node out
      ≡ option_map roomless_node (out_by undoing back (node_at (roomless_tree before).items path))
  pub out_again :
      option_map roomless_node
      (out_by undoing_back out (node_at (roomless_tree after).items path_back))
      ≡ option_map roomless_node back
