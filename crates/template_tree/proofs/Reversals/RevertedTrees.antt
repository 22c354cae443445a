-- An edit is reverted, and what is handed out reverts that again.
use Rattle.std.specs.Prelude.{◌≡◌, refl, ℕ, ◌+◌, ◌≤◌, List, Option, Some, option_map}
use Rattle.std.proofs.Common.{ap, sym, ◌∙◌, subst, arith}
use Rattle.template_tree.specs.Edits.Edit.{Differs, changed_in, procedure_of}
use Rattle.template_tree.specs.Edits.Receipt.{PlainReceipt, PlainUndoing, undone}
use Rattle.template_tree.specs.Edits.Reversal.{Before, CanRevert, IsReverted, IsUndoneIn, coming, comments, given_out, reverse_change, reverse_of, what_undone}
use Rattle.template_tree.specs.Positions.Path.{node_at}
use Rattle.template_tree.specs.Private.Exchanged.{IsExchanged}
use Rattle.template_tree.specs.Programs.PlainTree.{PlainNode, PlainTree, roomless_node, roomless_tree}
use Rattle.template_tree.specs.Programs.Slots.{times}
use Rattle.template_tree.specs.Programs.Tree.{IsTree}
use Rattle.template_tree.proofs.Reversals.ElidedComments.{times_same}
use Rattle.template_tree.proofs.Reversals.ReverseChanges.{turned, turned_differs}
use Rattle.template_tree.proofs.Reversals.RevertibleEdits.{before_is, node_of, undone_now}
use Rattle.template_tree.proofs.Room.RoomlessTrees.{tree_with_room, tree_without_room}

-- each slot stands but once in the tree that a receipt undoes to, where it does in the tree that comes back
pub undone_once : (tree : PlainTree) (receipt : PlainReceipt) (back : Option PlainNode) → IsTree (Before tree receipt back) → (slot : ℕ)
    → times slot (undone receipt back tree).items ≤ 1
undone_once tree receipt back t slot = omega (arith, t.once slot, times_same slot tree.items (undone receipt back tree).items)

-- that tree comes back, with as many slots drawn as are now
pub revert_is : (tree : PlainTree) (receipt : PlainReceipt) (back : Option PlainNode) → IsTree tree → CanRevert receipt back tree
    → Before tree receipt back ≡ undone_now tree receipt back
revert_is tree receipt back t can =
    before_is tree receipt back (IsUndoneIn receipt.change.slot.0 receipt.undoing back) can.there t.once
    (undone_once tree receipt back can.before) can.apart

-- how a reversal is reverted, as a receipt
abbrev pub again_receipt : PlainReceipt → PlainTree → List ℕ → PlainUndoing → PlainReceipt
again_receipt receipt before path undoing =
    record {
      change = reverse_change receipt.change;
      path = path;
      undoing = undoing;
      drawn = receipt.drawn;
      live = before.live;
    }

-- what was exchanged, with the counts set, is the tree before the edit, and what is handed out reverts that
pub reverted_is : (receipt : PlainReceipt) (back : Option PlainNode) (before after : PlainTree) (path : List ℕ) (undoing : PlainUndoing)
    (out : Option PlainNode) → IsTree before → CanRevert receipt back (roomless_tree before)
    → IsExchanged receipt.path receipt.undoing back before after path undoing out
    → IsReverted receipt back before record after { live = receipt.live } (again_receipt receipt before path undoing) out
reverted_is receipt back before after path undoing out t can exchanged =
    let old : PlainTree = roomless_tree before in
    let old_tree : IsTree old = tree_without_room before t in
    let done : PlainTree = record after { live = receipt.live } in
    let new : PlainTree = roomless_tree done in
    let again : PlainReceipt = again_receipt receipt before path undoing in
    let slot : ℕ = receipt.change.slot.0 in
    let came : new ≡ undone_now old receipt back =
    ap (λ (tree : PlainTree). let s : PlainTree = record tree { live = receipt.live } in s) exchanged.became in
    let became : new ≡ Before old receipt back = came ∙ sym (revert_is old receipt back old_tree can) in
    let new_tree : IsTree new = subst IsTree (sym became) can.before in
    let undone_again : undone again out new ≡ record old { drawn = receipt.drawn } =
    ap (λ (tree : PlainTree). let s : PlainTree = record tree { drawn = receipt.drawn; live = before.live } in s) exchanged.again in
    let there = exchanged.in_slot slot can.there in
    let apart : (s : ℕ) → comments s new.items + comments s (coming again.undoing out) ≤ 1 =
    λ s. omega (arith, exchanged.comments_stay s, can.apart s) in
    let reverts : Before new again out ≡ old =
    before_is new again out (IsUndoneIn slot again.undoing out) there new_tree.once
    (subst (λ (tree : PlainTree). (s : ℕ) → times s tree.items ≤ 1) (sym undone_again) old_tree.once) apart
    ∙ (ap (λ (tree : PlainTree). let s : PlainTree = record tree { drawn = new.drawn } in s) undone_again
    ∙ ap (λ (tree : PlainTree). let s : PlainTree = record old { drawn = tree.drawn } in s) came) in
    let node = node_of (node_at old.items receipt.path) (IsUndoneIn slot receipt.undoing back) can.there in
    let procedure : ℕ = receipt.change.procedure.0 in
    let gone : PlainTree = undone receipt back old in
    let within : procedure_of (changed_in (what_undone receipt.undoing) new.items old.items) slot ≡ Some procedure =
    subst (λ (tree : PlainTree). procedure_of (changed_in (what_undone receipt.undoing) tree.items old.items) slot ≡ Some procedure) (sym came)
    (subst (λ w. procedure_of (changed_in w gone.items old.items) slot ≡ Some procedure) can.what can.within) in
    let differs : Differs old new again.change =
    turned_differs receipt.undoing old new again.change (ap reverse_of can.what)
    (turned receipt.undoing back slot procedure receipt.path node.0 old.items new.items node.1 node.2 (old_tree.once slot)
    (new_tree.once slot) (ap (λ (tree : PlainTree). tree.items) came) within) in
    record {
      became = became;
      tree = tree_with_room done new_tree;
      change = refl;
      differs = differs;
      drawn = refl;
      reverts = reverts;
      can_revert =
          record {
            what = ap reverse_of can.what ∙ sym exchanged.what;
            there = there;
            within =
                subst
                (λ (tree : PlainTree). procedure_of (changed_in again.change.what tree.items new.items) slot ≡ Some procedure)
                (sym undone_again) differs.within;
            before = subst IsTree (sym reverts) old_tree;
            apart = apart;
          };
      room = exchanged.room;
      out_is = exchanged.out_is;
      out_again = exchanged.out_again;
    }

-- so it is reverted in a tree that is the same but for room
pub reverted_alike : (receipt : PlainReceipt) (back : Option PlainNode) (one other after : PlainTree) (again : PlainReceipt)
    (out : Option PlainNode) → roomless_tree one ≡ roomless_tree other → IsReverted receipt back one after again out
    → IsReverted receipt back other after again out
reverted_alike receipt back one other after again out same reverted =
    record {
      became = reverted.became ∙ ap (λ (tree : PlainTree). Before tree receipt back) same;
      tree = reverted.tree;
      change = reverted.change;
      differs = subst (λ (tree : PlainTree). Differs tree (roomless_tree after) again.change) same reverted.differs;
      drawn = reverted.drawn;
      reverts = reverted.reverts ∙ same;
      can_revert = reverted.can_revert;
      room = reverted.room;
      out_is = reverted.out_is ∙ ap (λ (tree : PlainTree). option_map roomless_node (given_out receipt back tree)) same;
      out_again = reverted.out_again;
    }
