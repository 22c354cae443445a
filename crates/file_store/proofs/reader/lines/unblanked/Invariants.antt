use Rattle.std.proofs.Common.{◌≡◌, ◌+◌, ◌≤◌, ◌++◌, length}
use Rattle.file_store.specs.Private.LineReading.{blank_bytes}
use Rattle.file_store.proofs.reader.lines.unblanked.Given as goal

abbrev pub decreases-loop-more : goal.decreases-loop-more
decreases-loop-more l = length l.rest

abbrev pub invariant-loop-more : goal.invariant-loop-more
invariant-loop-more l = record {
  whole : l.fn.line ≡ blank_bytes l.level ++ l.rest;
  few : l.level + length l.rest ≤ length l.fn.line;
}
