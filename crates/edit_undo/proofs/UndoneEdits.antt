-- `undo`, `put_back`: what is told of the newest edit, by what the reversal of that gives, and what comes of
-- reverting that.
use Rattle.std.specs.Prelude.{◌≡◌, refl, ℕ, ◌+◌, List, [], ◌∷◌, length, Option, Some, None, option_map}
use Rattle.std.proofs.Common.{ap, sym, ◌∙◌, subst, arith}
use Rattle.template_tree.specs.declared.change.Change.{Change}
use Rattle.template_tree.specs.declared.change.What.{What}
use Rattle.template_tree.specs.Edits.Edit.{Differs}
use Rattle.template_tree.specs.Edits.Receipt.{undone}
use Rattle.template_tree.specs.Edits.Reversal.{Back, IsReverted, given_out, reverse_of}
use Rattle.template_tree.specs.Laws.RoomLaws.{CountsIgnoreRoom}
use Rattle.template_tree.specs.Laws.TreeLaws.{RevertsToUndone}
use Rattle.template_tree.specs.Positions.Stop.{plain_stop}
use Rattle.template_tree.specs.Programs.PlainTree.{PlainNode, PlainTree, roomless_node, roomless_tree}
use Rattle.template_tree.specs.Programs.Tree.{IsTree}
use Rattle.edit_undo.specs.EarlierTree.{EarlierTree, as_kept, earlier_tree, trees_before}
use Rattle.edit_undo.specs.EditLimit.{KeepsEditLimits, edit_weight}
use Rattle.edit_undo.specs.UndoneEdit.{MayPutBack, UndoesNewest}
use Rattle.edit_undo.specs.declared.edit_record.EditRecord.{EditRecord}
use Rattle.edit_undo.specs.declared.undone.Undone.{Undone}
use Rattle.edit_undo.proofs.ElidedTrees.{back_kept, kept_again}

-- ---- weights

-- the weight of a node is the one without room
bare_weight : CountsIgnoreRoom → (back : Option PlainNode) → edit_weight (option_map roomless_node back) ≡ edit_weight back
bare_weight counts None = refl
bare_weight counts (Some node) = ap (λ n. n + 1) (counts node.inner)

-- nodes that are the same without room weigh the same
pub same_weight : CountsIgnoreRoom → (one other : Option PlainNode) → option_map roomless_node one ≡ option_map roomless_node other
    → edit_weight one ≡ edit_weight other
same_weight counts one other same = sym (bare_weight counts one) ∙ (ap edit_weight same ∙ bare_weight counts other)

-- ---- the newest edit undone

module _ (counts : CountsIgnoreRoom) (edit : EditRecord) (edits left : List EditRecord) (before after : PlainTree) (told : Undone)
    (newest : edits ≡ edit ∷ left) (reverted : IsReverted edit.receipt edit.back before after told.receipt told.back)
    (stop : told.stop ≡ edit.stop) (change : told.change ≡ told.receipt.change) where
  -- the weight of what comes out once it is put back
  weighs : edit_weight (given_out told.receipt told.back (roomless_tree after)) ≡ edit_weight edit.back
  weighs = same_weight counts (given_out told.receipt told.back (roomless_tree after)) edit.back reverted.out_again

  pub undoes_newest : UndoesNewest edits before left after told
  undoes_newest =
      let now = roomless_tree before in
      record {
        latest = earlier_tree edit now;
        earlier =
            ap (λ (e : List EditRecord). trees_before e now) newest
            ∙ ap (λ (tree : PlainTree). earlier_tree edit now ∷ trees_before left tree) (sym reverted.became);
        back = reverted.became ∙ sym (back_kept now (undone edit.receipt edit.back now));
        stop = ap plain_stop stop;
        change = subst (Differs now (roomless_tree after)) (sym change) reverted.differs;
        what = ap (λ (x : Change). x.what) (change ∙ reverted.change);
        slot = ap (λ (x : Change). x.slot.0) (change ∙ reverted.change);
        same_change = sym change;
        again = reverted.reverts;
        drawn = reverted.drawn;
        weight = weighs;
      }

  pub may_put_back : KeepsEditLimits edits → MayPutBack left after told
  may_put_back limits =
      let within : KeepsEditLimits (edit ∷ left) = subst KeepsEditLimits newest limits in
      record {
        fits = reverted.can_revert;
        room = reverted.room;
        few = omega (arith, within.few);
        light = omega (arith, within.light, weighs);
      }

-- ---- what was undone put back

-- what reverses a reversal does what the edit did
reversed_twice : (what : What) → reverse_of (reverse_of what) ≡ what
reversed_twice What.Node = refl
reversed_twice (What.Part part) = refl
reversed_twice What.Added = refl
reversed_twice What.Dropped = refl

-- the first of earlier trees, or else this one
abbrev first_of : EarlierTree → List EarlierTree → EarlierTree
first_of other [] = other
first_of other (first ∷ rest) = first

-- the latest of the trees before is a tree as it is kept
latest_kept : (edits : List EditRecord) (now : PlainTree) (latest : EarlierTree) (others : List EarlierTree)
    → trees_before edits now ≡ latest ∷ others → (earlier : PlainTree) × (latest.tree ≡ as_kept now earlier)
latest_kept [] now latest others is = absurd (omega (arith, ap length is))
latest_kept (edit ∷ edits) now latest others is =
    (undone edit.receipt edit.back now, ap (λ (trees : List EarlierTree). (first_of latest trees).tree) (sym is))

module _ (law : RevertsToUndone) (counts : CountsIgnoreRoom) (edit : EditRecord) (left : List EditRecord) (old new : PlainTree) (told : Undone)
    (is_new : IsTree (roomless_tree new)) (reverted : IsReverted told.receipt told.back old new edit.receipt edit.back)
    (stop : edit.stop ≡ told.stop) where
  -- what the record undoes to is the tree that came back, with the slots that were drawn then
  undoes_to : undone edit.receipt edit.back (roomless_tree new) ≡ record (roomless_tree old) { drawn = told.receipt.drawn }
  undoes_to =
      ap (λ (tree : PlainTree). let t : PlainTree = record tree { drawn = edit.receipt.drawn } in t)
      (sym (law edit.receipt edit.back (roomless_tree new) is_new reverted.can_revert) ∙ reverted.reverts)
      ∙ ap (λ (n : ℕ). let t : PlainTree = record (roomless_tree old) { drawn = n } in t) reverted.drawn

  -- so the latest of the trees before is as it was
  latest_again : (now earlier : PlainTree) (latest : EarlierTree) → latest.tree ≡ as_kept now earlier → roomless_tree new ≡ now
      → roomless_tree old ≡ Back now latest.tree → plain_stop told.stop ≡ latest.stop → told.receipt.drawn ≡ latest.tree.drawn
      → edit_weight (given_out told.receipt told.back (roomless_tree old)) ≡ latest.weight → told.receipt.change.what ≡ latest.what
      → told.receipt.change.slot.0 ≡ latest.slot → earlier_tree edit (roomless_tree new) ≡ latest
  latest_again now earlier latest kept same back stop_is drawn weight what slot =
      let with_drawn : PlainTree → PlainTree = λ tree. record tree { drawn = latest.tree.drawn } in
      let tree : as_kept (roomless_tree new) (undone edit.receipt edit.back (roomless_tree new)) ≡ latest.tree =
      (λ i. as_kept (same i) (undoes_to i))
      ∙ ((λ i. as_kept now (record (back i) { drawn = drawn i }))
      ∙ (ap (λ (t : PlainTree). with_drawn (as_kept now (Back now t))) kept
      ∙ (ap with_drawn (kept_again now earlier) ∙ ap with_drawn (sym kept))))
      in
      λ i.
      record {
        tree = tree i;
        stop = (ap plain_stop stop ∙ stop_is) i;
        weight = (same_weight counts edit.back (given_out told.receipt told.back (roomless_tree old)) reverted.out_is ∙ weight) i;
        what = (ap (λ (x : Change). reverse_of x.what) reverted.change ∙ (reversed_twice told.receipt.change.what ∙ what)) i;
        slot = (ap (λ (x : Change). x.slot.0) reverted.change ∙ slot) i;
      }

  pub put_back_is : (edits : List EditRecord) (before : PlainTree) → UndoesNewest edits before left old told
      → (roomless_tree new ≡ roomless_tree before)
      × (trees_before (edit ∷ left) (roomless_tree new) ≡ trees_before edits (roomless_tree before))
  put_back_is edits before undoes =
      let same : roomless_tree new ≡ roomless_tree before = reverted.became ∙ undoes.again in
      let kept = latest_kept edits (roomless_tree before) undoes.latest (trees_before left (roomless_tree old)) undoes.earlier in
      let what = ap (λ (x : Change). x.what) undoes.same_change ∙ undoes.what in
      let slot = ap (λ (x : Change). x.slot.0) undoes.same_change ∙ undoes.slot in
      let latest =
      latest_again (roomless_tree before) kept.0 undoes.latest kept.1 same undoes.back undoes.stop undoes.drawn undoes.weight what slot in
      (same, (λ i. latest i ∷ trees_before left (reverted.reverts i)) ∙ sym undoes.earlier)
