use Rattle.std.proofs.Common.{length}
use Rattle.file_store.specs.Private.LineStarts.{AreStarts}
use Rattle.file_store.specs.Private.Views.{come_of}
use Rattle.file_store.proofs.ReadListings.{SoFar}
use Rattle.file_store.proofs.reader.read_started.Given as goal

abbrev pub decreases-loop-line : goal.decreases-loop-line
decreases-loop-line l = length l.rest

abbrev pub invariant-loop-line : goal.invariant-loop-line
invariant-loop-line l = SoFar l.fn.bytes l.rest (come_of l.reader) × AreStarts l.rest l.left
