use Rattle.std.specs.Prelude.{◌≡◌, length}
use Rattle.slot_homes.proofs.EmptyTables.{AreEmpty}
use Rattle.slot_homes.proofs.homes.Homes.forget.Given as goal

abbrev pub invariant-loop-k : goal.invariant-loop-k
invariant-loop-k l = record {
  empty : AreEmpty l.self-inside.table.items l.k;
  places : length l.self-inside.table.items ≡ l.k-end;
  same : l.k-end ≡ length l.fn.self;
}
