-- The tests are those of the definition, at the numbers themselves.
use Rattle.std.proofs.Common.{refl}
use Rattle.plcs_machine.proofs.TextParts.{before_number, end_counted, from_before, from_behind, from_given, tested_above, tested_below}
use Rattle.plcs_machine.proofs.WholeNumbers.{passed}
use Rattle.plcs_machine.proofs.builtins.text_from.Goals.{then-i-lt1-via-then-i-lt1, then-i-lt1-via-else-i-lt1+then-i-bytes}
use Rattle.plcs_machine.proofs.builtins.text_from.Goals as goal

pub returns : goal.returns
returns c =
    let x = c.args.x.now in
    let i = c.args.i in
    let bytes = c.as_bytes-bytes.result.now in
    let fits = passed i c.ranges.i in
    let some = tested_above _ _ i _ fits refl c.if-i-lt1.false in
    let within = tested_above _ _ _ i (end_counted bytes x c.as_bytes-bytes.ensures.bytes c.as_bytes-bytes.ensures.short) fits c.if-i-bytes.false in
    from_given x bytes i _ c.cut.result c.cut.ensures c.as_bytes-bytes.ensures.bytes (before_number i c.ranges.i some) some within

pub returns-then-i-lt1 : goal.returns-then-i-lt1
returns-then-i-lt1 c =
    let x = c.args.x.now in
    let i = c.args.i in
    let bytes = c.as_bytes-bytes.result.now in
    let fits = passed i c.ranges.i in
    elim c.then-i-lt1.branch [
      | then-i-lt1-via-then-i-lt1 w ↦ from_before x i (tested_below _ _ i _ fits refl w.if-i-lt1.true)
      | then-i-lt1-via-else-i-lt1+then-i-bytes w ↦
          from_behind x i (tested_above _ _ i _ fits refl w.if-i-lt1.false)
          (tested_below _ _ _ i (end_counted bytes x c.as_bytes-bytes.ensures.bytes c.as_bytes-bytes.ensures.short) fits w.if-i-bytes.true)
    ]
