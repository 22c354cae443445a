use Rattle.file_store.proofs.LineEnds.{no_end_more}
use Rattle.file_store.proofs.reader.line_starts.divided.Goals as goal

pub loop-place-preserved : goal.loop-place-preserved
loop-place-preserved c =
    no_end_more c.args.text.now c.loop-place.place c.loop-place-test.true c.loop-place.invariant c.if-text-place-eq10.false
