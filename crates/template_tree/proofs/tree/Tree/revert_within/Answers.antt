-- There is a tree before the edit, so what comes back may be exchanged for what is there; with the counts set that is
-- the tree before the edit, and what is handed out reverts that again.
use Rattle.std.specs.Prelude.{◌≡◌, List, ℕ, Option, IsSome}
use Rattle.std.proofs.Common.{ap, sym, subst}
use Rattle.template_tree.specs.contracts.tree.Tree.{the_view}
use Rattle.template_tree.specs.Edits.Receipt.{PlainReceipt, PlainUndoing, undone}
use Rattle.template_tree.specs.Edits.Reversal.{CanRevert, IsReverted, IsUndoneIn}
use Rattle.template_tree.specs.Positions.Path.{node_at}
use Rattle.template_tree.specs.Private.Exchanged.{IsExchanged}
use Rattle.template_tree.specs.Private.ReceiptView.{plain_undoing}
use Rattle.template_tree.specs.Programs.PlainTree.{PlainNode, PlainTree, roomless_tree}
use Rattle.template_tree.specs.Programs.Program.{IsProgram}
use Rattle.template_tree.proofs.Reversals.RevertedTrees.{revert_is, reverted_is}
use Rattle.template_tree.proofs.Reversals.RevertibleEdits.{and_some, some_with_room}
use Rattle.template_tree.proofs.Room.RoomlessTrees.{tree_without_room}
use Rattle.template_tree.proofs.tree.Tree.revert_within.Goals as goal

pub exchange_back-path-requires-clause-there : goal.exchange_back-path-requires-clause-there
exchange_back-path-requires-clause-there c =
    let tree = c.args.self.now in
    let can : CanRevert c.args.receipt c.args.back (roomless_tree tree) = c.requires.fits in
    subst (λ (r : PlainReceipt). IsSome (node_at tree.items r.path)) (sym c.receipt.view_is)
    (some_with_room tree.items c.args.receipt.path
    (and_some (node_at (roomless_tree tree).items c.args.receipt.path)
    (IsUndoneIn c.args.receipt.change.slot.0 c.args.receipt.undoing c.args.back) can.there))

pub exchange_back-path-requires-clause-program : goal.exchange_back-path-requires-clause-program
exchange_back-path-requires-clause-program c =
    let tree = c.args.self.now in
    let can : CanRevert c.args.receipt c.args.back (roomless_tree tree) = c.requires.fits in
    subst (λ (r : PlainReceipt). IsProgram (undone r c.args.back (roomless_tree tree)).items) (sym c.receipt.view_is)
    (subst (λ (t : PlainTree). IsProgram t.items)
    (revert_is (roomless_tree tree) c.args.receipt c.args.back (tree_without_room tree c.requires.tree) can) can.before.program)

pub returns : goal.returns
returns c =
    let before = c.args.self.now in
    let back = c.args.back in
    let receipt : PlainReceipt =
    record {
      change = c.receipt.inside.change;
      path = c.receipt.inside.path.items;
      undoing = plain_undoing c.receipt.inside.undoing;
      drawn = c.receipt.inside.drawn;
      live = c.receipt.inside.live;
    }
    in
    let same : receipt ≡ c.args.receipt = c.receipt.view_is in
    let can : CanRevert receipt back (roomless_tree before) =
    subst (λ (r : PlainReceipt). CanRevert r back (roomless_tree before)) (sym same) c.requires.fits in
    let after : PlainTree = the_view c.self-2.inside in
    let path : List ℕ = c.exchange_back-path.result.path.items in
    let undoing : PlainUndoing = plain_undoing c.exchange_back-path.result.undoing in
    let out : Option PlainNode = c.exchange_back-path.result.out in
    let exchanged : IsExchanged receipt.path receipt.undoing back before after path undoing out =
    subst (λ (t : PlainTree). IsExchanged receipt.path receipt.undoing back before t path undoing out) (sym c.self-2.view_is)
    c.exchange_back-path.ensures in
    let done : PlainTree = record after { live = c.receipt.inside.live } in
    let again : PlainReceipt =
    record {
      change = c.reversed.result;
      path = path;
      undoing = undoing;
      drawn = c.receipt.inside.drawn;
      live = c.self.inside.live;
    }
    in
    subst (λ (r : PlainReceipt). IsReverted r back before done again out) same
    (subst (λ (r : PlainReceipt). IsReverted receipt back before done r out)
    (λ i. record {
      change = sym c.reversed.ensures i;
      path = path;
      undoing = undoing;
      drawn = c.receipt.inside.drawn;
      live = ap (λ (t : PlainTree). t.live) (sym c.self.view_is) i;
    })
    (reverted_is receipt back before after path undoing out c.requires.tree can exchanged))
