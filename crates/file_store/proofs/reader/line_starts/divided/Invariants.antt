use Rattle.std.proofs.Common.{◌-◌, length, take}
use Rattle.file_store.specs.Loaded.{HasNoEnd}
use Rattle.file_store.proofs.reader.line_starts.divided.Given as goal

abbrev pub decreases-loop-place : goal.decreases-loop-place
decreases-loop-place l = length l.text - l.place

abbrev pub invariant-loop-place : goal.invariant-loop-place
invariant-loop-place l = HasNoEnd (take l.place l.text)
