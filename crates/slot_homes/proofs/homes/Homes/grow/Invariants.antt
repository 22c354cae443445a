use Rattle.std.specs.Prelude.{◌≡◌, length}
use Rattle.slot_homes.proofs.homes.Homes.grow.Given as goal

abbrev pub invariant-loop-k : goal.invariant-loop-k
invariant-loop-k l = record {
  places : length l.table.items ≡ l.k;
}
