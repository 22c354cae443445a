use Rattle.std.proofs.Common.{arith, sym}
use Rattle.template_tree.proofs.Trees.Counts.{counted_below}
use Rattle.template_tree.proofs.tree.Tree.slots_at.Goals as goal

pub slots-requires : goal.slots-requires
slots-requires c =
    record {
      few =
          omega (
            arith,
            c.requires.tree.few,
            counted_below c.args.self.now.items c.args.path.now.items c.in-Some.node.now (sym c.in-Some.ensures.found),
          );
    }
