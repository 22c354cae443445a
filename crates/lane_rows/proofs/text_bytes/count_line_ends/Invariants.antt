use Rattle.std.proofs.Common.{◌≡◌, ◌-◌, ◌≤◌, count_by, length, take}
use Rattle.lane_rows.specs.TextByte.{is_line_end}
use Rattle.lane_rows.proofs.text_bytes.count_line_ends.Given as goal

-- so many bytes before the place are line ends
abbrev pub invariant-loop-at : goal.invariant-loop-at
invariant-loop-at l = record {
  within : l.at ≤ length l.bytes;
  counted : l.ends ≡ count_by is_line_end (take l.at l.bytes);
  few : l.ends ≤ l.at;
}

abbrev pub decreases-loop-at : goal.decreases-loop-at
decreases-loop-at l = length l.bytes - l.at
