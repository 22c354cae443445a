use Rattle.std.proofs.Common.{ℕ, cond, get_or, refl, ap, arith}
use Rattle.std.proofs.lemmas.Bool.{ne_eqb}
use Rattle.screen_window.proofs.OutputLines.{count_more}
use Rattle.screen_window.proofs.lower_rows.line_count.Goals as goal

pub loop-byte-preserved-then-byte-ne10 : goal.loop-byte-preserved-then-byte-ne10
loop-byte-preserved-then-byte-ne10 c =
    let bytes = c.args.bytes.now in
    let at = c.loop-byte.byte-index in
    let more = count_more bytes at (get_or bytes at 0) c.loop-byte-test.true refl in
    let none = ap {B = ℕ} (λ b. cond b 1 0) (ne_eqb (get_or bytes at 0) 10 c.if-byte-ne10.true) in
    record {
      lines = omega (arith, c.loop-byte.invariant.lines, more, none);
      few = omega (arith, c.loop-byte.invariant.few);
    }
