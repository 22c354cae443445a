use Rattle.slot_homes.specs.Said.{AreTaken}
use Rattle.slot_homes.proofs.homes.Homes.free_place.Given as goal

abbrev pub invariant-loop-probe : goal.invariant-loop-probe
invariant-loop-probe l = record {
  taken : AreTaken l.self l.slot.0 l.probe;
}
