use Rattle.std.proofs.Common.{◌≡◌, ◌≤◌, count_by, take}
use Rattle.lane_rows.specs.TextByte.{is_line_end}
use Rattle.lane_rows.proofs.text_bytes.count_line_ends_from.Given as goal

-- so many bytes before the place are line ends
abbrev pub invariant-loop-k : goal.invariant-loop-k
invariant-loop-k l = (l.ends ≡ count_by is_line_end (take l.k l.bytes)) × (l.ends ≤ l.k)
