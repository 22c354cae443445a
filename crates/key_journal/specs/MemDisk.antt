-- What a disk in memory is seen as.
use Rattle.std.specs.Prelude.{ℕ, List, [], ◌∷◌, fold, length, min}
use Rattle.synth_outside.specs.Calls.{PlainCalls}
use Rattle.key_journal.specs.Disk.{DiskState, with_range, with_sync, overwritten}
use Rattle.key_journal.specs.declared.mem_disk.DiskCall.{DiskCall}
use Rattle.key_journal.specs.declared.mem_disk.DiskCall.TheVariants.{Write, Sync}

-- what a disk in memory is seen as: the writes and syncs that were done, the calls made with those that
-- are to fail, and how many failed
pub record PlainMemDisk : Type 0 where
  pub done : List DiskCall
  pub calls : PlainCalls
  pub faults : ℕ

-- the state of a disk in memory once the piece is written from a place on, or from its end where the place
-- is past it
abbrev pub with_write : DiskState → ℕ → List ℕ → DiskState
with_write state at piece =
    let start = min at (length state.bytes) in
    with_range state start (length piece) (overwritten state.bytes start piece)

-- the states of a disk in memory after one more call that was done
abbrev pub with_call : List DiskState → DiskCall → List DiskState
with_call [] call = []
with_call (state ∷ past) (Write at piece) = with_write state at piece ∷ state ∷ past
with_call (state ∷ past) Sync = with_sync state ∷ state ∷ past

-- the state of a disk in memory that is empty
abbrev pub empty_state : DiskState
empty_state = record { bytes = []; synced = []; pending = [] }

-- the states of a disk in memory, which was empty first, after the calls that were done
abbrev pub states : List DiskCall → List DiskState
states calls = fold with_call (empty_state ∷ []) calls
