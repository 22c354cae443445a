-- What clearing a journal after a run does.
use Rattle.std.specs.Prelude.{◌≡◌, ◌⊎◌, ℕ, List, Ok, Err}
use Rattle.key_journal.specs.ClearedJournal.{Clears}
use Rattle.key_journal.specs.Disk.{DiskState}
use Rattle.key_journal.specs.declared.disk.DiskFault.{DiskFault}
use Rattle.key_journal.specs.declared.disk.DiskFault.TheVariants.{Failed}
use Rattle.synth_kept.specs.KeptStatus.{fault_status}
use Rattle.synth_kept.specs.declared.status.KeptStatus.{KeptStatus}
use Rattle.synth_kept.specs.declared.status.KeptStatus.TheVariants.{Run}
use Rattle.synth_outside.specs.Cause.{HasCause}
use Rattle.synth_top.specs.declared.status.Status.TheVariants.{Done}

-- a journal was cleared after a run
pub record ClearsAll (status : KeptStatus) (past now : List DiskState) (faults_before faults_now : ℕ)
    : Type 0 where
  pub answer : status ≡ Run Done
  pub clears : Clears {E = DiskFault} past now (Ok (tt {0}))
  pub same : faults_now ≡ faults_before

-- a journal couldn't be cleared after a run
pub record FailsToClear (status : KeptStatus) (past now : List DiskState)
    (faults_before faults_now : ℕ) : Type 0 where
  pub fault : DiskFault
  pub answer : status ≡ fault_status fault
  pub clears : Clears past now (Err fault)
  pub cause : HasCause {T = Unit {0}} Failed faults_before faults_now (Err fault)

-- what clearing a journal after a run did: it was cleared, or couldn't be
abbrev pub ClearsKeys : KeptStatus → List DiskState → List DiskState → ℕ → ℕ → Type 0
ClearsKeys status past now faults_before faults_now =
    ClearsAll status past now faults_before faults_now
    ⊎ FailsToClear status past now faults_before faults_now
