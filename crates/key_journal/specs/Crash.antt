-- What is recovered after a crash: at one moment, and at each moment of a call.
use Rattle.std.specs.Prelude.{◌≡◌, ℕ, ◌≤◌, ◌⊎◌, List, [], ◌∷◌, ◌++◌, length}
use Rattle.key_journal.specs.Disk.{DiskState, MayLeave}
use Rattle.key_journal.specs.Recovered.{recovered}

-- at one moment this holds of the keys that are recovered from each image that a crash may leave, and
-- from what the disk reads as
pub record EachRecovers (P : List ℕ → Type 0) (state : DiskState) : Type 0 where
  pub images : (image : List ℕ) → MayLeave state image → P (recovered image)
  pub reads : P (recovered state.bytes)

-- exactly these keys are recovered after a crash
abbrev pub LeavesOnly : List ℕ → DiskState → Type 0
LeavesOnly keys = EachRecovers (λ found. found ≡ keys)

-- these keys are recovered after a crash, or these and then the ones that were taken
abbrev pub LeavesOneOf : List ℕ → List ℕ → DiskState → Type 0
LeavesOneOf keys taken = EachRecovers (λ found. (found ≡ keys) ⊎ (found ≡ keys ++ taken))

-- these keys are recovered after a crash, and perhaps others behind them
abbrev pub LeavesAllOf : List ℕ → DiskState → Type 0
LeavesAllOf keys = EachRecovers (λ found. (rest : List ℕ) × (found ≡ keys ++ rest))

-- at least so many keys are recovered after a crash
abbrev pub LeavesAtLeast : ℕ → DiskState → Type 0
LeavesAtLeast count = EachRecovers (λ found. count ≤ length found)

-- this holds at each of some moments of a call, each of which is a state of the disk
abbrev pub EachState : (DiskState → Type 0) → List DiskState → Type 0
EachState P [] = Unit {0}
EachState P (state ∷ states) = P state × EachState P states

-- at each moment of a call this holds of the state: of each one that the call put in front of those
-- from before; a disk that doesn't tell goes on so
abbrev pub Throughout : (DiskState → Type 0) → List DiskState → List DiskState → Type 0
Throughout P [] now = now ≡ []
Throughout P (state ∷ past) now =
    (added : List DiskState) × (now ≡ added ++ state ∷ past) × EachState P added

-- the first keys are recovered after a crash, and perhaps some of those that follow them, in their order
abbrev pub LeavesBetween : List ℕ → List ℕ → DiskState → Type 0
LeavesBetween first all = EachRecovers (λ found. (more : List ℕ) × (rest : List ℕ) ×
    (found ≡ first ++ more) × (all ≡ found ++ rest))
