-- The tests are those of the definition, at the numbers themselves.
use Rattle.std.proofs.Common.{◌+ℤ◌, ap, refl}
use Rattle.std.specs.Prelude.{nat_abs}
use Rattle.plcs_machine.proofs.TextParts.{before_number, end_counted_wide, part_before, part_behind, part_below, part_given, tested_above, tested_below}
use Rattle.plcs_machine.proofs.WholeNumbers.{passed, sum_given}
use Rattle.plcs_machine.proofs.builtins.text_part.Goals.{then-i-lt1-via-then-i-lt1, then-i-lt1-via-else-i-lt1+then-k-lt0, then-i-lt1-via-else-i-lt1+else-k-lt0+then-from-bytes}
use Rattle.plcs_machine.proofs.builtins.text_part.Goals as goal

pub returns : goal.returns
returns c =
    let x = c.args.x.now in
    let i = c.args.i in
    let k = c.args.k in
    let bytes = c.as_bytes-bytes.result.now in
    let fits_i = passed i c.ranges.i in
    let fits_k = passed k c.ranges.k in
    let some = tested_above _ _ i _ fits_i refl c.if-i-lt1.false in
    let counted = tested_above _ _ k _ fits_k refl c.if-k-lt0.false in
    let within =
    tested_above _ _ _ (i +ℤ k) (end_counted_wide bytes x c.as_bytes-bytes.ensures.bytes c.as_bytes-bytes.ensures.short)
    (sum_given i k c.from.result c.from-else-k-lt0.result c.ranges.i c.ranges.k c.from.ensures c.from-else-k-lt0.ensures) c.if-from-bytes.false in
    part_given x bytes i k _ _ c.part.result c.part.ensures c.as_bytes-bytes.ensures.bytes (before_number i c.ranges.i some) (ap nat_abs fits_k) some counted within

pub returns-then-i-lt1 : goal.returns-then-i-lt1
returns-then-i-lt1 c =
    let x = c.args.x.now in
    let i = c.args.i in
    let k = c.args.k in
    let bytes = c.as_bytes-bytes.result.now in
    let fits_i = passed i c.ranges.i in
    let fits_k = passed k c.ranges.k in
    elim c.then-i-lt1.branch [
      | then-i-lt1-via-then-i-lt1 w ↦ part_before x i k (tested_below _ _ i _ fits_i refl w.if-i-lt1.true)
      | then-i-lt1-via-else-i-lt1+then-k-lt0 w ↦
          part_below x i k (tested_above _ _ i _ fits_i refl w.if-i-lt1.false) (tested_below _ _ k _ fits_k refl w.if-k-lt0.true)
      | then-i-lt1-via-else-i-lt1+else-k-lt0+then-from-bytes w ↦
          part_behind x i k (tested_above _ _ i _ fits_i refl w.if-i-lt1.false) (tested_above _ _ k _ fits_k refl w.if-k-lt0.false)
          (tested_below _ _ _ (i +ℤ k) (end_counted_wide bytes x c.as_bytes-bytes.ensures.bytes c.as_bytes-bytes.ensures.short)
          (sum_given i k w.from.result w.from-else-k-lt0.result c.ranges.i c.ranges.k w.from.ensures w.from-else-k-lt0.ensures) w.if-from-bytes.true)
    ]
