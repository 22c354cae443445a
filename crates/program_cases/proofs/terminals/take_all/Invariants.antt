use Rattle.std.proofs.Common.{◌≡◌}
use Rattle.program_cases.proofs.terminals.take_all.Given as goal

-- both terminals keep their rows
abbrev pub invariant-loop-k : goal.invariant-loop-k
invariant-loop-k l = record {
  whole : l.whole.rows ≡ l.fn.whole.rows;
  parted : l.parted.rows ≡ l.fn.parted.rows;
}
