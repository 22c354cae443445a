use Rattle.std.proofs.Common.{arith, sym}
use Rattle.slot_homes.proofs.SaidHomes.{left_here, left_next, left_none}
use Rattle.slot_homes.proofs.homes.Homes.home.Goals as goal

pub returns-in-Some : goal.returns-in-Some
returns-in-Some c =
    left_here c.args.self.now c.args.slot.0 c.loop-probe.probe c.loop-probe-test.true c.loop-probe.invariant.left c.in-Some.home
    (sym c.in-Some.ensures)

pub loop-probe-preserved : goal.loop-probe-preserved
loop-probe-preserved c =
    record {
      left =
          left_next c.args.self.now c.args.slot.0 c.loop-probe.probe c.loop-probe-test.true c.loop-probe.invariant.left
          (sym c.in_default.ensures);
    }

pub returns : goal.returns
returns c =
    left_none c.args.self.now c.args.slot.0 c.loop-probe.probe (omega (arith, c.loop-probe-test.false)) c.loop-probe.invariant.left
