-- What a file gives to the disk that stands on it.
use Rattle.std.specs.Prelude.{◌≡◌, ℕ, ◌-◌, ◌≤◌, List, length, take, drop}
use Rattle.key_journal.specs.Disk.{DiskState}

-- the first bytes of a file from a place on are these, so many
pub record ReadsFront (at count : ℕ) (given : List ℕ) (state : DiskState) : Type 0 where
  pub within : count ≤ length state.bytes - at
  pub same : given ≡ take count (drop at state.bytes)

-- a file gives some bytes from a place on, and none only at its end
pub record ReadsSome (at count : ℕ) (given : List ℕ) (state : DiskState) : Type 0 where
  pub front : ReadsFront at count given state
  pub exact_end : count ≡ 0 → length state.bytes ≤ at

-- what a disk over a file is seen as: the file, and how many calls failed
pub record PlainFileDisk (F : Type 0) : Type 0 where
  pub file : F
  pub faults : ℕ
