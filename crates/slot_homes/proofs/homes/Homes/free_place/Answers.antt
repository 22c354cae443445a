use Rattle.std.proofs.Common.{◌∙◌, arith, sym}
use Rattle.slot_homes.proofs.SaidHomes.{taken_next}
use Rattle.slot_homes.proofs.homes.Homes.free_place.Goals as goal

pub loop-probe-init : goal.loop-probe-init
loop-probe-init c = record { taken = λ j within. absurd (omega (arith, within)) }

pub loop-probe-preserved : goal.loop-probe-preserved
loop-probe-preserved c = record {
  taken =
      taken_next c.args.self.now c.args.slot.0 c.loop-probe.probe c.loop-probe.invariant.taken
      (sym c.is_free.ensures ∙ c.if-is_free.false);
}
