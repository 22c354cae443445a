use Rattle.std.proofs.Common.{◌≡◌}
use Rattle.program_cases.proofs.terminals.take_parted.Given as goal

-- the terminal keeps its rows
abbrev pub invariant-loop-byte : goal.invariant-loop-byte
invariant-loop-byte l = l.terminal.rows ≡ l.fn.terminal.rows
