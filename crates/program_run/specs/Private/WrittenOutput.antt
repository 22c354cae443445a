-- What writing the output of a run does to the sink.
use Rattle.std.specs.Prelude.{◌≡◌, ◌⊎◌, ℕ, List, Option, Result, OnErr, OnOk}
use Rattle.std.specs.Io.KnownBytes.{Appends}
use Rattle.plcs_base.specs.Count.{Rose}
use Rattle.synth_outside.specs.Cause.{HasCause}
use Rattle.synth_outside.specs.Sink.{AppendsFront}
use Rattle.synth_outside.specs.declared.faults.SinkFault.{SinkFault}
use Rattle.program_run.specs.declared.ending.Ending.{Ending}

-- the sink took all bytes of an output, or where a write gave no answer a front of them; and it counted a failure, or
-- a want of memory, where that is the answer
pub record TakesWhole {T : Type 0} (bytes : List ℕ) (result : Result T SinkFault)
    (taken_before taken_now : Option (List ℕ)) (faults_before faults_now wants_before wants_now : ℕ) : Type 0 where
  pub all : OnOk result (Appends taken_before taken_now bytes)
  pub front : OnErr result (AppendsFront taken_before taken_now bytes)
  pub cause : HasCause SinkFault.Failed faults_before faults_now result
  pub want : HasCause SinkFault.OutOfMemory wants_before wants_now result

-- writing the output of a run put all of it into the sink, which wanted no memory, so that the run ends as before
pub record IsAllWritten (own ending : Ending) (output : List ℕ) (before now : Option (List ℕ))
    (wants_before wants_now : ℕ) : Type 0 where
  pub same : ending ≡ own
  pub all : Appends before now output
  pub wants : wants_now ≡ wants_before

-- why writing the output of a run to the sink broke off: a write failed, or the sink wanted memory, which it counted
abbrev pub IsCut : Ending → (wants_before wants_now : ℕ) → Type 0
IsCut ending wants_before wants_now =
    (ending ≡ Ending.WriteFault) ⊎ ((ending ≡ Ending.NoMemory) × Rose wants_before wants_now)

-- writing the output of a run put a front of it into the sink, and the run ends by what the sink answered
pub record IsFrontWritten (ending : Ending) (output : List ℕ) (before now : Option (List ℕ))
    (wants_before wants_now : ℕ) : Type 0 where
  pub why : IsCut ending wants_before wants_now
  pub front : AppendsFront before now output

-- how a run that ended in its own way ends after writing its output to the sink
abbrev pub IsWritten : (own ending : Ending) → (output : List ℕ) → (before now : Option (List ℕ))
    → (wants_before wants_now : ℕ) → Type 0
IsWritten own ending output before now wants_before wants_now =
    IsAllWritten own ending output before now wants_before wants_now
    ⊎ IsFrontWritten ending output before now wants_before wants_now
