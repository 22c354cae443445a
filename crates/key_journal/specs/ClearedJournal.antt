-- What a crash leaves of a journal that is cleared.
use Rattle.std.specs.Prelude.{◌≡◌, ℕ, ◌⊎◌, List, [], ◌∷◌, Result, OnOk}
use Rattle.key_journal.specs.Crash.{LeavesOnly, Throughout}
use Rattle.key_journal.specs.Disk.{DiskState, MayLeave, Newest}
use Rattle.key_journal.specs.Recovered.{recovered, kept_keys}

-- what a crash could leave of a journal just before it is cleared: these keys
abbrev pub CouldLeave : List DiskState → List ℕ → Type 0
CouldLeave [] keys = ⊥
CouldLeave (state ∷ past) keys =
    (image : List ℕ) × MayLeave state image × (keys ≡ recovered image)

-- while a journal is cleared a crash leaves nothing, or what it could leave just before
pub record LeavesNothingOr (before : List DiskState) (state : DiskState) : Type 0 where
  pub images : (image : List ℕ) → MayLeave state image →
      (recovered image ≡ []) ⊎ CouldLeave before (recovered image)
  pub reads : (recovered state.bytes ≡ []) ⊎ (recovered state.bytes ≡ kept_keys before)

-- a journal is cleared: at each moment, and then, a crash leaves nothing or what it could leave just
-- before, and once it is Ok nothing
pub record Clears {E : Type 0} (past past_after : List DiskState) (result : Result Unit E)
    : Type 0 where
  pub each : Throughout (LeavesNothingOr past) past past_after
  pub after : Newest (LeavesNothingOr past) past_after
  pub cleared : OnOk result (Newest (LeavesOnly []) past_after)
