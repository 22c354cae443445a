use Rattle.std.proofs.Common.{ap, sym, ◌∙◌, subst}
use Rattle.template_tree.specs.Programs.PlainTree.{PlainTree, roomless_tree}
use Rattle.template_tree.specs.Edits.Receipt.{PlainReceipt, undone}
use Rattle.template_tree.specs.Programs.Tree.{IsTree}
use Rattle.template_tree.proofs.Room.RoomlessTrees.{tree_with_room}
use Rattle.template_tree.proofs.tree.Tree.undo.Goals as goal

pub returns-clause-tree : goal.returns-clause-tree
returns-clause-tree c =
    let counted =
    ap (λ (t : PlainTree). let s : PlainTree = record t { drawn = c.receipt.inside.drawn; live = c.receipt.inside.live } in s)
    (ap roomless_tree c.self.view_is ∙ c.restore.ensures) in
    let whole = ap (λ (r : PlainReceipt). undone r c.args.back (roomless_tree c.args.self.now)) c.receipt.view_is in
    tree_with_room _ (subst IsTree (sym (counted ∙ whole)) c.requires.can_undo.before)
