use Rattle.template_tree.proofs.Reversals.Exchanges.{put_exchanged}
use Rattle.template_tree.proofs.tree.Tree.put_again.Goals as goal

pub returns : goal.returns
returns c =
    put_exchanged c.args.node c.swap_node-there.result c.args.back c.args.path.items c.args.self.now c.swap_node-there.new.self
    c.swap_node-there.ensures.came c.swap_node-there.ensures.gone
