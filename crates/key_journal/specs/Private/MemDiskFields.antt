-- What holds of the fields of a disk in memory.
use Rattle.std.specs.Prelude.{◌≡◌, ℕ, ◌≤◌, ◌^◌, List, length}
use Rattle.key_journal.specs.Disk.{disk_bytes}
use Rattle.key_journal.specs.MemDisk.{states}
use Rattle.key_journal.specs.declared.mem_disk.DiskCall.{DiskCall}

-- the bytes of a disk in memory are what the calls that were done left, and end where every disk does
pub record HoldsBytes (bytes : List ℕ) (done : List DiskCall) : Type 0 where
  pub same : bytes ≡ disk_bytes (states done)
  pub inside : length bytes ≤ 2 ^ 62
