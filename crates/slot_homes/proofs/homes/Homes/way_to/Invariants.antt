use Rattle.std.specs.Prelude.{◌≡◌, length}
use Rattle.slot_homes.proofs.SaidWays.{WayLeft}
use Rattle.slot_homes.proofs.homes.Homes.way_to.Given as goal

abbrev pub invariant-loop-taken : goal.invariant-loop-taken
invariant-loop-taken l = record {
  left : WayLeft l.self l.fn.slot.0 l.taken l.at.0 l.way.items;
  many : length l.way.items ≡ l.taken;
}
