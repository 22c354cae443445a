-- Whether a run goes on after a screen that was painted.
use Rattle.std.specs.Prelude.{Result, Ok, Err}
use Rattle.synth_outside.specs.declared.faults.SinkFault.{SinkFault}
use Rattle.synth_top.specs.declared.editor.Going.{Going}
use Rattle.synth_top.specs.declared.editor.Going.TheVariants.{On, Over}
use Rattle.synth_top.specs.declared.status.Status.TheVariants.{NoMemory, WriteFault}

-- whether a run goes on after a screen that was painted so: a fault of the sink ends it
abbrev pub going_after : {A : Type 0} → Result A SinkFault → Going
going_after (Ok painted) = On
going_after (Err SinkFault.Failed) = Over WriteFault
going_after (Err SinkFault.OutOfMemory) = Over NoMemory
