use Rattle.std.proofs.Common.{sym, arith}
use Rattle.lane_rows.specs.TextByte.{is_text_byte}
use Rattle.lane_rows.proofs.ByteLanes.{all_pass}
use Rattle.lane_rows.proofs.text_bytes.all_printable_from.Goals as goal

pub returns : goal.returns
returns c = sym (all_pass is_text_byte c.args.bytes.now (λ k from to. c.loop-i.invariant k from (omega arith)))
