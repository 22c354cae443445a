-- What writing some bytes does to a sink.
use Rattle.std.specs.Prelude.{ℕ, List, ◌++◌, Option, Result, Ok, Err, OnOk, OnErr}
use Rattle.std.specs.Io.KnownBytes.{Appends}
use Rattle.synth_outside.specs.Cause.{HasCause}
use Rattle.synth_outside.specs.Sink.{AppendsFront}
use Rattle.synth_outside.specs.declared.faults.SinkFault.{SinkFault}

-- where some bytes are written, the sink took all of them, or where a write gave no answer a front of them; and it
-- counted a failure, or a want of memory, where that is the answer
pub record Writes {T : Type 0} (bytes : List ℕ) (result : Result T SinkFault)
    (taken_before taken_now : Option (List ℕ)) (faults_before faults_now wants_before wants_now : ℕ) : Type 0 where
  pub all : OnOk result (Appends taken_before taken_now bytes)
  pub front : OnErr result (AppendsFront taken_before taken_now bytes)
  pub cause : HasCause SinkFault.Failed faults_before faults_now result
  pub want : HasCause SinkFault.OutOfMemory wants_before wants_now result

-- the law of writing in turn: some bytes written and then others are both written, as far as the second write says; and
-- where the first gave no answer, what the sink took is a front of both
pub record WritesInTurn : Type 0 where
  pub both : (first second : List ℕ) (result : Result Unit SinkFault) (a b c : Option (List ℕ)) (p q s u v w : ℕ)
      → Writes {T = Unit} first (Ok tt) a b p q u v → Writes second result b c q s v w
      → Writes (first ++ second) result a c p s u w
  pub cut : (first second : List ℕ) (fault : SinkFault) (a b : Option (List ℕ)) (p q u v : ℕ)
      → Writes {T = Unit} first (Err fault) a b p q u v → Writes {T = Unit} (first ++ second) (Err fault) a b p q u v
