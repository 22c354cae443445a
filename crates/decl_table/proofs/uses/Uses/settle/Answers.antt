use Rattle.std.proofs.Common.{arith}
use Rattle.decl_table.proofs.SettledUses.{settled_all}
use Rattle.decl_table.proofs.uses.Uses.settle.Goals as goal

pub loop-k-preserved : goal.loop-k-preserved
loop-k-preserved c = c.settle_at.ensures c.args.self.now.uses c.loop-k.invariant

pub returns : goal.returns
returns c =
    settled_all c.loop-k.k c.args.self.now.uses c.loop-k.self.uses (omega (arith, c.len-k-end.ensures, c.loop-k-test.false)) c.loop-k.invariant
