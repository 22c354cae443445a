-- What is known of a journal that is opened, and what a crash leaves of it.
use Rattle.std.specs.Prelude.{◌≡◌, ℕ, List, false, Result, OnOk, OnErr}
use Rattle.synth_outside.specs.Cause.{HasCause}
use Rattle.key_journal.specs.Crash.{LeavesOnly, Throughout}
use Rattle.key_journal.specs.Disk.{DiskState, Newest}
use Rattle.key_journal.specs.Journal.{PlainJournalKeys}
use Rattle.key_journal.specs.Recovered.{kept_keys}
use Rattle.key_journal.specs.declared.disk.DiskFault.{DiskFault}
use Rattle.key_journal.specs.declared.disk.DiskFault.TheVariants.{Failed}

-- a journal that was opened stands on this source, and no key was given yet
pub record IsNew {S D : Type 0} (inner : S) (journal : PlainJournalKeys S D) : Type 0 where
  pub source : journal.inner ≡ inner
  pub none_given : journal.given ≡ 0
  pub not_ended : journal.ended ≡ false
  pub none_read : journal.reads ≡ 0

-- to open a journal syncs its disk: once it is Ok a crash leaves the kept keys alone, whatever it could
-- leave before, and so it does at each moment at which the disk isn't as before; where it isn't Ok
-- nothing changes
pub record OpensDisk {D T : Type 0} (past : D → List DiskState) (faults : D → ℕ) (disk disk_after : D)
    (result : Result T DiskFault) : Type 0 where
  pub each : Throughout (LeavesOnly (kept_keys (past disk))) (past disk) (past disk_after)
  pub safe : OnOk result (Newest (LeavesOnly (kept_keys (past disk))) (past disk_after))
  pub same : OnErr result (past disk_after ≡ past disk)
  pub cause : HasCause Failed (faults disk) (faults disk_after) result
