-- How a journal is closed after a run of the editor, and what a crash then leaves of it.
use Rattle.std.specs.Prelude.{◌≡◌, ℕ, List, []}
use Rattle.key_journal.specs.Crash.{LeavesOnly, LeavesOneOf, Throughout}
use Rattle.key_journal.specs.Disk.{DiskState, Newest}
use Rattle.key_journal.specs.declared.disk.DiskFault.{DiskFault}
use Rattle.synth_kept.specs.KeptStatus.{fault_status}
use Rattle.synth_kept.specs.declared.status.KeptStatus.{KeptStatus}
use Rattle.synth_kept.specs.declared.status.KeptStatus.TheVariants.{Run}
use Rattle.synth_top.specs.declared.status.Status.{Status}
use Rattle.synth_top.specs.declared.status.Status.TheVariants.{Done}

-- how a journal was closed: left as it stands, or cleared, or to clear it was no success for this fault
pub data Closing : Type 0 where
  LeftStanding : Closing
  Cleared : Closing
  NotCleared : DiskFault → Closing

-- a journal that stands is as the run left it, and the answer is the run's
pub record IsLeftStanding (run : Status) (status : KeptStatus) (behind now : List DiskState) : Type 0 where
  pub answer : status ≡ Run run
  pub same : now ≡ behind

-- a journal was closed by clearing it, after a run of the editor: a crash leaves nothing, and at each moment of the
-- clearing nothing or all keys
pub record IsCleared (run : Status) (status : KeptStatus) (keys : List ℕ) (behind now : List DiskState)
    : Type 0 where
  pub done : run ≡ Done
  pub answer : status ≡ Run Done
  pub each : Throughout (LeavesOneOf [] keys) behind now
  pub nothing : Newest (LeavesOnly []) now

-- a journal that couldn't be cleared to close it after a run of the editor: at each moment of the clearing, and then, a
-- crash leaves nothing or all keys
pub record IsNotCleared (fault : DiskFault) (run : Status) (status : KeptStatus) (keys : List ℕ)
    (behind now : List DiskState) : Type 0 where
  pub done : run ≡ Done
  pub answer : status ≡ fault_status fault
  pub each : Throughout (LeavesOneOf [] keys) behind now
  pub either : Newest (LeavesOneOf [] keys) now

-- how the session ended, and what a crash then leaves, by how the journal of these keys was closed after the run
abbrev pub Closes : Closing → Status → KeptStatus → List ℕ → List DiskState → List DiskState → Type 0
Closes LeftStanding run status keys behind now = IsLeftStanding run status behind now
Closes Cleared run status keys behind now = IsCleared run status keys behind now
Closes (NotCleared fault) run status keys behind now =
    IsNotCleared fault run status keys behind now

-- how the journal is closed after a run of the editor: by clearing it exactly where this holds
abbrev pub ClearsWhere : Type 0 → Closing → Type 0
ClearsWhere quit LeftStanding = quit → ⊥
ClearsWhere quit Cleared = quit
ClearsWhere quit (NotCleared fault) = quit
