use Rattle.std.proofs.Common.{◌≡◌, ◌+◌, drop}
use Rattle.screen_window.specs.Paint.{rows_paint}
use Rattle.screen_window.proofs.Owing.{Owes}
use Rattle.screen_window.proofs.painting.paint_rows.Given as goal

-- the rows from this one on are still to be painted
abbrev pub invariant-loop-row : goal.invariant-loop-row
invariant-loop-row g l = record {
  owed : Owes (g.K.Sink.taken l.fn.sink) (g.K.Sink.taken l.sink)
      (rows_paint (l.row + 1) (drop l.row l.old.lines) (drop l.row l.new.lines))
      (rows_paint 1 l.old.lines l.new.lines);
  unfailed : g.K.Sink.faults l.sink ≡ g.K.Sink.faults l.fn.sink;
  unwanted : g.K.Sink.wants l.sink ≡ g.K.Sink.wants l.fn.sink;
}
