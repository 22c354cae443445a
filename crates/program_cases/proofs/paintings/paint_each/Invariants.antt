use Rattle.std.proofs.Common.{◌≡◌}
use Rattle.program_cases.proofs.paintings.paint_each.Given as goal

-- terminal and grid keep their size
abbrev pub invariant-loop : goal.invariant-loop
invariant-loop l = record {
  terminal : l.terminal.rows ≡ l.size.0;
  rows : l.grid.rows ≡ l.size.0;
  cols : l.grid.cols ≡ l.size.1;
}
