-- What a disk reads as, what a crash may leave of it, and what each call does to both.
use Rattle.std.specs.Prelude.{◌≡◌, ℕ, ◌+◌, ◌-◌, ◌≤◌, ◌⊎◌, List, [], ◌∷◌, ◌++◌, length, take, drop, min, max}

-- what a disk reads as at one moment, what it read as when it was last synced, and which ranges were
-- written since, the newest first: where each begins, and how many bytes it has
pub record DiskState : Type 0 where
  pub bytes : List ℕ
  pub synced : List ℕ
  pub pending : List (ℕ × ℕ)

-- a range of a disk was written in part: within it, and past the old end, any bytes may stand, the
-- length may be any from the old one to the new one, and all other bytes stay
pub record Torn (at count : ℕ) (before now : List ℕ) : Type 0 where
  pub front : take at now ≡ take at before
  pub back : drop (at + count) now ≡ drop (at + count) before
  pub no_shorter : length before ≤ length now
  pub no_longer : length now ≤ max (length before) (at + count)

-- a crash may leave this image of what was synced, each range that was written since torn
abbrev pub Leaves : List ℕ → List (ℕ × ℕ) → List ℕ → Type 0
Leaves synced [] image = image ≡ synced
Leaves synced (range ∷ pending) image =
    (earlier : List ℕ) × Leaves synced pending earlier × Torn range.0 range.1 earlier image

-- what a crash may leave of a disk in this state: this image
abbrev pub MayLeave : DiskState → List ℕ → Type 0
MayLeave state image = Leaves state.synced state.pending image

-- of a disk that tells its states this holds of the newest of them; of one that doesn't nothing is said
abbrev pub Newest : (DiskState → Type 0) → List DiskState → Type 0
Newest P [] = Unit {0}
Newest P (state ∷ past) = P state

-- what a disk reads as; one that doesn't tell counts as empty
abbrev pub disk_bytes : List DiskState → List ℕ
disk_bytes [] = []
disk_bytes (state ∷ past) = state.bytes

-- a disk gives these bytes from a place on, up to so many or to its end
pub record ReadsRange (at most count : ℕ) (given : List ℕ) (state : DiskState) : Type 0 where
  pub exact : count ≡ min most (length state.bytes - at)
  pub same : given ≡ take count (drop at state.bytes)

-- the bytes of a disk with the piece written over them from a place on
abbrev pub overwritten : List ℕ → ℕ → List ℕ → List ℕ
overwritten bytes at piece = take at bytes ++ piece ++ drop (at + length piece) bytes

-- the state of a disk with other bytes in a range, which isn't synced
abbrev pub with_range : DiskState → ℕ → ℕ → List ℕ → DiskState
with_range state at count bytes =
    record { bytes = bytes; synced = state.synced; pending = (at, count) ∷ state.pending }

-- the state of a disk once it is synced
abbrev pub with_sync : DiskState → DiskState
with_sync state = record { bytes = state.bytes; synced = state.bytes; pending = [] }

-- the piece was written to a disk: there is one more state
abbrev pub WritesToDisk : ℕ → List ℕ → List DiskState → List DiskState → Type 0
WritesToDisk at piece [] now = now ≡ []
WritesToDisk at piece (state ∷ past) now =
    now ≡ with_range state at (length piece) (overwritten state.bytes at piece) ∷ state ∷ past

-- a range of a disk was written in part, which is one more state, or not at all
abbrev pub Tears : ℕ → ℕ → List DiskState → List DiskState → Type 0
Tears at count [] now = now ≡ []
Tears at count (state ∷ past) now = (now ≡ state ∷ past) ⊎ ((bytes : List ℕ) ×
    Torn at count state.bytes bytes × (now ≡ with_range state at count bytes ∷ state ∷ past))

-- a disk was synced: there is one more state
abbrev pub Syncs : List DiskState → List DiskState → Type 0
Syncs [] now = now ≡ []
Syncs (state ∷ past) now = now ≡ with_sync state ∷ state ∷ past

-- what a disk reads as is one of the images that a crash may leave of it
abbrev pub ReadsAsImage : DiskState → Type 0
ReadsAsImage state = MayLeave state state.bytes

-- a write to any disk keeps what it reads as among the images that a crash may leave of it
abbrev pub WritesKeepImages : Type 0
WritesKeepImages = (state : DiskState) (at : ℕ) (piece : List ℕ) → at ≤ length state.bytes →
    ReadsAsImage state →
    ReadsAsImage (with_range state at (length piece) (overwritten state.bytes at piece))

-- a write to any disk of which a part alone was done keeps what the disk reads as among the images that a crash may
-- leave of it
abbrev pub TearsKeepImages : Type 0
TearsKeepImages = (state : DiskState) (at count : ℕ) (bytes : List ℕ) →
    Torn at count state.bytes bytes → ReadsAsImage state → ReadsAsImage (with_range state at count bytes)

-- a sync of any disk makes what it reads as one of the images that a crash may leave of it
abbrev pub SyncsMakeImages : Type 0
SyncsMakeImages = (state : DiskState) → ReadsAsImage (with_sync state)
