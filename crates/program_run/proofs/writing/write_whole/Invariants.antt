use Rattle.std.proofs.Common.{◌≡◌, ◌≤◌, ◌-◌, length, take}
use Rattle.std.specs.Io.KnownBytes.{Appends}
use Rattle.program_run.proofs.writing.write_whole.Given as goal

-- the bytes before `at` were taken
abbrev pub invariant-loop-at : goal.invariant-loop-at
invariant-loop-at g l = record {
  within : l.at ≤ length l.bytes;
  written : Appends (g.K.Sink.taken l.fn.output) (g.K.Sink.taken l.output) (take l.at l.bytes);
  unfailed : g.K.Sink.faults l.output ≡ g.K.Sink.faults l.fn.output;
  unwanted : g.K.Sink.wants l.output ≡ g.K.Sink.wants l.fn.output;
}

abbrev pub decreases-loop-at : goal.decreases-loop-at
decreases-loop-at g l = length l.bytes - l.at
