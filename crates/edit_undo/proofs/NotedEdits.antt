-- An edit that was made, noted with those before it.
use Rattle.std.specs.Prelude.{◌≡◌, refl, ℕ, ◌≤◌, List, [], ◌∷◌}
use Rattle.std.proofs.Common.{ap, sym, ◌∙◌, subst, arith}
use Rattle.template_tree.specs.Edits.Receipt.{undone}
use Rattle.template_tree.specs.Edits.Reversal.{Before, CanRevert, reverse_of}
use Rattle.template_tree.specs.Laws.TreeLaws.{RevertsToUndone}
use Rattle.template_tree.specs.Positions.Stop.{plain_stop}
use Rattle.template_tree.specs.Programs.Limit.{most_drawn_slots}
use Rattle.template_tree.specs.Programs.PlainTree.{Forest, PlainTree}
use Rattle.template_tree.specs.Programs.Slots.{AllBelow}
use Rattle.template_tree.specs.Programs.Tree.{IsTree}
use Rattle.edit_undo.specs.EarlierTree.{EarlierTree, RingFits, as_kept, earlier_tree, trees_before}
use Rattle.edit_undo.specs.EditLaws.{IsNoted}
use Rattle.edit_undo.specs.EditLimit.{edit_weight}
use Rattle.edit_undo.specs.declared.edit_record.EditRecord.{EditRecord}

-- ---- with more slots drawn

-- a tree with so many slots drawn
abbrev pub with_drawn : PlainTree → ℕ → PlainTree
with_drawn tree drawn = record tree { drawn = drawn }

below_more : (less more : ℕ) (items : Forest) → less ≤ more → AllBelow less items → AllBelow more items
below_more less more Forest.nil le h = tt
below_more less more (Forest.cons label inner rest) le h =
    (omega (arith, le, h.0), below_more less more inner le h.1, below_more less more rest le h.2)

pub more_drawn : (tree : PlainTree) (drawn : ℕ) → IsTree tree → tree.drawn ≤ drawn → drawn ≤ most_drawn_slots → IsTree (with_drawn tree drawn)
more_drawn tree drawn t more few =
    record {
      program = t.program;
      shallow = t.shallow;
      few = t.few;
      drawn_few = few;
      drawn = below_more tree.drawn drawn tree.items more t.drawn;
      once = t.once;
      main = t.main;
      live = t.live;
    }

-- a receipt fits all the same
drawn_reverts : (edit : EditRecord) (tree : PlainTree) (drawn : ℕ) → tree.drawn ≤ drawn → drawn ≤ most_drawn_slots
    → CanRevert edit.receipt edit.back tree → CanRevert edit.receipt edit.back (with_drawn tree drawn)
drawn_reverts edit tree drawn more few can =
    record {
      what = can.what;
      there = can.there;
      within = can.within;
      before = more_drawn (Before tree edit.receipt edit.back) drawn can.before more few;
      apart = can.apart;
    }

-- and so do all
pub drawn_fit : (edits : List EditRecord) (tree : PlainTree) (drawn : ℕ) → tree.drawn ≤ drawn → drawn ≤ most_drawn_slots → RingFits edits tree
    → RingFits edits (with_drawn tree drawn)
drawn_fit [] tree drawn more few fits = tt
drawn_fit (edit ∷ edits) tree drawn more few fits = (
  drawn_reverts edit tree drawn more few fits.0,
  drawn_fit edits (Before tree edit.receipt edit.back) drawn more few fits.1,
)

-- the trees before are the same
pub drawn_before : (edits : List EditRecord) (tree : PlainTree) (drawn : ℕ) → trees_before edits (with_drawn tree drawn) ≡ trees_before edits tree
drawn_before [] tree drawn = refl
drawn_before (edit ∷ edits) tree drawn =
    ap (λ (trees : List EarlierTree). earlier_tree edit tree ∷ trees) (drawn_before edits (Before tree edit.receipt edit.back) drawn)

-- ---- an edit noted

pub noted : RevertsToUndone → (before after : PlainTree) (edit : EditRecord) (edits : List EditRecord) → IsTree before → IsTree after
    → undone edit.receipt edit.back after ≡ before → CanRevert edit.receipt edit.back after → before.drawn ≤ after.drawn → RingFits edits before
    → IsNoted before after edit edits
noted law before after edit edits was is undoes can more fits =
    let drawn : ℕ = after.drawn in
    let latest : EarlierTree =
    record {
      tree = as_kept after before;
      stop = plain_stop edit.stop;
      weight = edit_weight edit.back;
      what = reverse_of edit.receipt.change.what;
      slot = edit.receipt.change.slot.0;
    } in
    let comes : Before after edit.receipt edit.back ≡ with_drawn before drawn =
    law edit.receipt edit.back after is can ∙ ap (λ (tree : PlainTree). with_drawn tree drawn) undoes in
    record {
      fits = (can, subst (RingFits edits) (sym comes) (drawn_fit edits before drawn more is.drawn_few fits));
      earlier =
          (λ i.
          record {
            tree = as_kept after (undoes i);
            stop = plain_stop edit.stop;
            weight = edit_weight edit.back;
            what = reverse_of edit.receipt.change.what;
            slot = edit.receipt.change.slot.0;
          } ∷ trees_before edits (comes i))
          ∙ ap (λ (trees : List EarlierTree). latest ∷ trees) (drawn_before edits before drawn);
    }
