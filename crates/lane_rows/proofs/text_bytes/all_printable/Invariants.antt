use Rattle.std.proofs.Common.{◌-◌, ◌≤◌, length}
use Rattle.lane_rows.specs.TextByte.{is_text_byte}
use Rattle.lane_rows.specs.Private.LaneRun.{PassBetween}
use Rattle.lane_rows.proofs.text_bytes.all_printable.Given as goal

-- a text may have the bytes before the place
abbrev pub invariant-loop-at : goal.invariant-loop-at
invariant-loop-at l = (l.at ≤ length l.bytes) × PassBetween is_text_byte l.bytes 0 l.at

abbrev pub decreases-loop-at : goal.decreases-loop-at
decreases-loop-at l = length l.bytes - l.at
