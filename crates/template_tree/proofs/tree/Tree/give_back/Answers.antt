use Rattle.template_tree.proofs.Reversals.Exchanges.{back_exchanged, none_exchanged}
use Rattle.template_tree.proofs.tree.Tree.give_back.Goals as goal

pub returns-in_default : goal.returns-in_default
returns-in_default c = rw c.in_default.is (none_exchanged c.args.path.items c.args.self.now)

pub returns : goal.returns
returns c =
    rw c.in-Some.is
    (back_exchanged c.in-Some.node c.swap_node-there.result c.args.path.items c.args.self.now c.swap_node-there.new.self
    c.swap_node-there.ensures.came c.swap_node-there.ensures.gone)
