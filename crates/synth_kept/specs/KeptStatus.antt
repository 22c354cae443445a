-- How a session ends whose keys are kept.
use Rattle.std.specs.Prelude.{ℕ}
use Rattle.key_journal.specs.declared.disk.DiskFault.{DiskFault}
use Rattle.synth_kept.specs.declared.status.KeptStatus.{KeptStatus}
use Rattle.synth_kept.specs.declared.status.KeptStatus.TheVariants.{Run, JournalFault}
use Rattle.synth_top.specs.declared.status.Status.TheVariants.{NoMemory}
use Rattle.synth_top.specs.Status.{status_number}

-- the number with which the program ends that keeps its keys, by its status
abbrev pub kept_status_number : KeptStatus → ℕ
kept_status_number (Run status) = status_number status
kept_status_number JournalFault = 6

-- how a session ends whose journal can't be opened or cleared
abbrev pub fault_status : DiskFault → KeptStatus
fault_status DiskFault.Failed = JournalFault
fault_status DiskFault.OutOfMemory = Run NoMemory
