-- The trees before the latest edits of a tree, as the records of these give them back.
use Rattle.std.specs.Prelude.{ℕ, List, [], ◌∷◌}
use Rattle.template_tree.specs.declared.change.What.{What}
use Rattle.template_tree.specs.Edits.Edit.{whole}
use Rattle.template_tree.specs.Edits.Receipt.{undone}
use Rattle.template_tree.specs.Edits.Reversal.{Before, CanRevert, reverse_of, with_elision_of}
use Rattle.template_tree.specs.Positions.Stop.{PlainStop, plain_stop}
use Rattle.template_tree.specs.Programs.PlainTree.{PlainTree}
use Rattle.edit_undo.specs.EditLimit.{edit_weight, latest_within, most_edits, most_taken_slots}
use Rattle.edit_undo.specs.declared.edit_record.EditRecord.{EditRecord}

-- an earlier tree, which can be gone back to: the tree before an edit as it is kept, the stop of the cursor in it, the
-- weight of the edit, and what going back does in which slot
pub record EarlierTree : Type 0 where
  pub tree : PlainTree
  pub stop : PlainStop
  pub weight : ℕ
  pub what : What
  pub slot : ℕ

-- a tree as it is kept to be gone back to, where this one came after it: a comment that stands in both is shown in it,
-- since it takes the elision that it has by then; one that comes back has the elision that it had
abbrev pub as_kept : (now earlier : PlainTree) → PlainTree
as_kept now earlier = record earlier { items = with_elision_of (whole now.items) earlier.items }

-- the tree before this one, by the record of the edit that led to it
abbrev pub earlier_tree : EditRecord → PlainTree → EarlierTree
earlier_tree edit tree = record {
  tree = as_kept tree (undone edit.receipt edit.back tree);
  stop = plain_stop edit.stop;
  weight = edit_weight edit.back;
  what = reverse_of edit.receipt.change.what;
  slot = edit.receipt.change.slot.0;
}

-- the trees before this one, by the records of the edits that led to it, the latest first
abbrev pub trees_before : List EditRecord → PlainTree → List EarlierTree
trees_before [] tree = []
trees_before (edit ∷ edits) tree =
    earlier_tree edit tree ∷ trees_before edits (Before tree edit.receipt edit.back)

-- the trees that can be gone back to of these, the latest first: the oldest are dropped until both limits are kept
abbrev pub kept_trees : List EarlierTree → List EarlierTree
kept_trees trees = latest_within (λ earlier. earlier.weight) most_edits most_taken_slots trees

-- a ring of edits fits the tree: its newest record does, the next one fits the tree before that, and so on
abbrev pub RingFits : List EditRecord → PlainTree → Type 0
RingFits [] tree = Unit {0}
RingFits (edit ∷ edits) tree =
    CanRevert edit.receipt edit.back tree × RingFits edits (Before tree edit.receipt edit.back)
