-- How the editor ends.
use Rattle.std.specs.Prelude.{◌⊎◌, ℕ}
use Rattle.synth_top.specs.declared.status.Status.{Status}
use Rattle.synth_top.specs.declared.status.Status.TheVariants.{Done, ReadFault, WriteFault, NoMemory, BadWords, KeyLimit}

-- the number with which the editor's program ends, by its status
abbrev pub status_number : Status → ℕ
status_number Done = 0
status_number ReadFault = 1
status_number WriteFault = 2
status_number NoMemory = 3
status_number BadWords = 4
status_number KeyLimit = 5

-- what the status with which the editor ends says of the source: it is left as after reads that were Ok, or after such
-- reads and one that wasn't
abbrev pub LeftAs : Status → Type 0 → Type 0 → Type 0
LeftAs Done after_reads after_fault = after_reads
LeftAs ReadFault after_reads after_fault = after_fault
LeftAs WriteFault after_reads after_fault = after_reads
LeftAs NoMemory after_reads after_fault = after_reads ⊎ after_fault
LeftAs BadWords after_reads after_fault = after_reads
LeftAs KeyLimit after_reads after_fault = after_reads
