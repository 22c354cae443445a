use Rattle.std.proofs.Common.{◌≡◌, ◌+◌, ◌<◌, ◌≤◌, ◌-◌, length, take}
use Rattle.key_journal.specs.Disk.{Newest}
use Rattle.key_journal.specs.DiskFile.{ReadsFront}
use Rattle.key_journal.specs.declared.disk.TheConstants.{DISK_END}
use Rattle.key_journal.proofs.std_disk.fill_at.Given as goal

-- the bytes up to here were read
abbrev pub invariant-loop-count : goal.invariant-loop-count
invariant-loop-count g l = record {
  within : l.count ≤ length l.buf;
  inside : 0 < l.count → l.fn.at + l.count ≤ DISK_END;
  front : Newest (ReadsFront l.fn.at l.count (take l.count l.buf)) (g.F.DiskFile.past l.fn.file);
  same : g.F.DiskFile.past l.file ≡ g.F.DiskFile.past l.fn.file;
}

abbrev pub decreases-loop-count : goal.decreases-loop-count
decreases-loop-count g l = length l.initial.buf - l.count
