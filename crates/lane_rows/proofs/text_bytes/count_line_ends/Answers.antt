use Rattle.std.proofs.Common.{◌+◌, ap₂, ◌∙◌, arith}
use Rattle.lane_rows.specs.TextByte.{is_line_end}
use Rattle.lane_rows.proofs.ByteLanes.{counted_more}
use Rattle.lane_rows.proofs.text_bytes.count_line_ends.Goals as goal

pub loop-at-preserved : goal.loop-at-preserved
loop-at-preserved c = record {
  within = omega arith;
  counted =
      ap₂ (λ m n. m + n) c.loop-at.invariant.counted c.line_ends_in-ends.ensures.ends
      ∙ counted_more is_line_end c.args.bytes.now c.loop-at.at;
  few = omega (arith, c.loop-at.invariant.few, c.line_ends_in-ends.ensures.few);
}
