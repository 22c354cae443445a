-- The item came beside a node that is there, into its list, where it is found at the path beside it.
use Rattle.std.specs.Prelude.{ℕ, ◌≤◌, List}
use Rattle.std.proofs.Common.{arith, sym, subst}
use Rattle.template_tree.specs.Edits.Receipt.{PlainUndoing}
use Rattle.template_tree.specs.Private.Exchanged.{IsExchanged}
use Rattle.template_tree.specs.Programs.PlainTree.{roomless_node}
use Rattle.template_tree.specs.Programs.Slots.{count}
use Rattle.template_tree.proofs.Lists.ListEdits.{last_small}
use Rattle.template_tree.proofs.Reversals.Exchanges.{inserted_exchanged}
use Rattle.template_tree.proofs.Reversals.RevertibleEdits.{some_node}
use Rattle.template_tree.proofs.tree.Tree.insert_again.Goals as goal

pub added_path-requires : goal.added_path-requires
added_path-requires c =
    let few : count c.args.self.now.items ≤ 20000 = c.requires.tree.few in
    let node = some_node _ c.requires.there in
    record { small = omega (arith, few, last_small c.args.self.now.items c.args.path.items node.0 node.1) }

pub returns : goal.returns
returns c =
    let node = some_node _ c.requires.there in
    subst
    (λ (p : List ℕ).
    IsExchanged c.args.path.items (PlainUndoing.put_in c.args.side (roomless_node c.args.item)) c.args.back c.args.self.now
    c.restore_dropped.new.self p PlainUndoing.take_out c.args.back)
    (sym c.added_path.ensures)
    (inserted_exchanged c.args.side c.args.item node.0 c.args.back c.args.path.items c.args.self.now c.restore_dropped.new.self node.1
    c.restore_dropped.ensures)
