-- How a making ends, by what became of writing its summary.
use Rattle.std.specs.Prelude.{Result, Ok, Err}
use Rattle.synth_outside.specs.declared.faults.SinkFault.{SinkFault}
use Rattle.synth_top.specs.declared.status.Status.{Status}
use Rattle.synth_top.specs.declared.status.Status.TheVariants.{Done, NoMemory, WriteFault}

-- the status of a making whose summary was written so: a fault of the sink cuts it short
abbrev pub written_as : {A : Type 0} → Result A SinkFault → Status
written_as (Ok written) = Done
written_as (Err SinkFault.Failed) = WriteFault
written_as (Err SinkFault.OutOfMemory) = NoMemory
