use Rattle.slot_homes.proofs.SaidHomes.{Left}
use Rattle.slot_homes.proofs.homes.Homes.home.Given as goal

abbrev pub invariant-loop-probe : goal.invariant-loop-probe
invariant-loop-probe l = record {
  left : Left l.self l.slot.0 l.probe;
}
