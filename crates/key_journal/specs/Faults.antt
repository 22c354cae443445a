-- What a fault of a disk is answered as by a source that stands on it.
use Rattle.synth_outside.specs.declared.faults.SourceFault.{SourceFault}
use Rattle.key_journal.specs.declared.disk.DiskFault.{DiskFault}

-- the fault of a source that stands on a disk with this fault
abbrev pub source_fault : DiskFault → SourceFault
source_fault DiskFault.Failed = SourceFault.Failed
source_fault DiskFault.OutOfMemory = SourceFault.OutOfMemory

-- the fault of a disk that a source on it answers as want of memory
abbrev pub memory_fault : DiskFault
memory_fault = DiskFault.OutOfMemory
