-- The item left its list, which keeps the room; with the path before it and the side on which it stood it comes back
-- there.
use Rattle.std.specs.Prelude.{ℕ, pred, List}
use Rattle.std.proofs.Common.{sym, subst}
use Rattle.template_tree.specs.declared.side.Side.{Side}
use Rattle.template_tree.specs.Edits.Receipt.{PlainUndoing}
use Rattle.template_tree.specs.Positions.Path.{with_last}
use Rattle.template_tree.specs.Private.Exchanged.{IsExchanged}
use Rattle.template_tree.specs.Programs.PlainTree.{roomless_node}
use Rattle.template_tree.proofs.Reversals.Exchanges.{taken_exchanged}
use Rattle.template_tree.proofs.Room.RoomlessTrees.{tree_without_room}
use Rattle.template_tree.proofs.tree.Tree.take_again.Goals as goal

pub returns : goal.returns
returns c =
    let path = c.args.path.items in
    let before = c.args.self.now in
    let after = c.drop_item.new.self in
    let item = c.in-Some.item in
    let exchanged =
    taken_exchanged item c.args.back path before after (sym c.in-Some.ensures.taken) (tree_without_room before c.requires.tree).program
    c.requires.program c.in-Some.ensures.others c.in-Some.ensures.room
    in
    subst
    (λ (p : List ℕ).
    IsExchanged path PlainUndoing.take_out c.args.back before after p (PlainUndoing.put_in c.side_left.result (roomless_node item)) c.args.back)
    (sym c.path_before.ensures)
    (subst
    (λ (side : Side).
    IsExchanged path PlainUndoing.take_out c.args.back before after (with_last pred path) (PlainUndoing.put_in side (roomless_node item)) c.args.back)
    (sym c.side_left.ensures) exchanged)
