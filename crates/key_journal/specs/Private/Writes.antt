-- A write that is synced at once, over a disk that is synced.
use Rattle.std.specs.Prelude.{◌≡◌, ℕ, List, [], length, Result, OnOk}
use Rattle.key_journal.specs.Crash.{Throughout}
use Rattle.key_journal.specs.Disk.{DiskState, MayLeave, Newest, Torn, disk_bytes, overwritten}

-- a disk is synced with these bytes, as before and after a write that is synced at once: it reads as these, and a
-- crash leaves them
pub record IsSyncedAs (bytes : List ℕ) (state : DiskState) : Type 0 where
  pub none : state.pending ≡ []
  pub synced : state.synced ≡ bytes
  pub reads : state.bytes ≡ bytes

-- a disk is synced, as before a write that is synced at once: a crash leaves what it reads as
abbrev pub IsSynced : DiskState → Type 0
IsSynced state = IsSyncedAs state.bytes state

-- a crash in a write that is synced at once leaves these bytes with the range torn
pub record IsTornFrom (at count : ℕ) (bytes : List ℕ) (state : DiskState) : Type 0 where
  pub images : (image : List ℕ) → MayLeave state image → Torn at count bytes image
  pub reads : Torn at count bytes state.bytes

-- a write that is synced at once: at each moment of the call a crash leaves the old bytes with the range
-- torn, and the written ones once it is Ok
pub record WritesSynced {E : Type 0} (at : ℕ) (piece : List ℕ) (before now : List DiskState)
    (result : Result Unit E) : Type 0 where
  pub each : Throughout (IsTornFrom at (length piece) (disk_bytes before)) before now
  pub done : OnOk result (Newest (IsSyncedAs (overwritten (disk_bytes before) at piece)) now)
