use Rattle.lane_rows.specs.TextByte.{is_text_byte}
use Rattle.lane_rows.specs.Private.LaneRun.{PassBetween}
use Rattle.lane_rows.proofs.text_bytes.all_printable_from.Given as goal

-- a text may have the bytes before the place
abbrev pub invariant-loop-i : goal.invariant-loop-i
invariant-loop-i l = PassBetween is_text_byte l.bytes 0 l.i
