-- What a making says of the sink and of the source of keys, by the status with which it ends.
use Rattle.std.proofs.Common.{◌≡◌, ◌⊎◌, inl, inr, ℕ, List, Option, Result, Ok, Err, OnErr, refl, sym, subst, arith}
use Rattle.std.specs.Io.KnownBytes.{Appends}
use Rattle.plcs_base.specs.PlainCounts.{PlainCounts}
use Rattle.synth_outside.specs.Cause.{HasCause, RisesWith}
use Rattle.synth_outside.specs.Sink.{AppendsFront}
use Rattle.synth_outside.specs.declared.faults.SinkFault.{SinkFault}
use Rattle.screen_window.specs.Writes.{Writes}
use Rattle.synth_session.specs.PlainSession.{PlainSession}
use Rattle.synth_top.specs.declared.status.Status.{Status}
use Rattle.synth_top.specs.declared.status.Status.TheVariants.{Done, ReadFault, WriteFault, NoMemory, BadWords, KeyLimit}
use Rattle.synth_top.specs.Making.{MadeAs, PartMade, ToldMaking}
use Rattle.synth_top.specs.Private.MakingKeys.{IsMade}
use Rattle.synth_top.specs.Private.WrittenSummary.{written_as}
use Rattle.synth_top.specs.Status.{LeftAs}
use Rattle.synth_top.specs.Summary.{summary}

-- what is so anyway is so at a fault
pub at_fault : {T E P : Type 0} (result : Result T E) → P → OnErr result P
at_fault (Ok done) is = tt
at_fault (Err error) is = is

-- ---- the sink

-- what is told of a making at a moment
abbrev told : Option (List ℕ) → (wants : ℕ) → PlainCounts → ToldMaking
told taken wants counts = record { taken = taken; wants = wants; counts = counts }

-- memory ran out before all keys were pressed, and nothing was written
pub unwritten : (number : ℕ) (taken : Option (List ℕ)) (wants : ℕ) (u v : PlainCounts) → PartMade number u v
    → MadeAs NoMemory number (told taken wants u) (told taken wants v)
unwritten number taken wants u v part = inl (record { made = part; taken = refl; wants = refl })

-- then no write failed
pub unfailed : (count : ℕ) → RisesWith (NoMemory ≡ WriteFault) count count
unfailed count = record { later = omega arith; rose = λ e. absurd (cc); same = λ other. refl; last = λ e. refl }

-- the summary of the same session was written, or a front of it
wrote_of : (s t : PlainSession) (before now : Option (List ℕ)) → s ≡ t
    → Appends before now (summary s) → Appends before now (summary t)
wrote_of s t before now same wrote = subst (λ (x : PlainSession). Appends before now (summary x)) same wrote

cut_of : (s t : PlainSession) (before now : Option (List ℕ)) → s ≡ t
    → AppendsFront before now (summary s) → AppendsFront before now (summary t)
cut_of s t before now same wrote = subst (λ (x : PlainSession). AppendsFront before now (summary x)) same wrote

-- all keys were pressed, and the summary of this session, which is the one then, was written so
module _ (number : ℕ) (session : PlainSession) (before now : Option (List ℕ))
    (faults faults_now wants wants_now : ℕ) (u v : PlainCounts) (made : IsMade number session u v) where
  by_result : (result : Result Unit SinkFault)
      → Writes (summary session) result before now faults faults_now wants wants_now
      → MadeAs (written_as result) number (told before wants u) (told now wants_now v)
  by_result (Ok done) wrote = record {
    made = made.made;
    wrote = wrote_of _ _ before now made.session_is wrote.all;
    wants = wrote.want.same (λ e. absurd (cc));
  }
  by_result (Err SinkFault.Failed) wrote = record {
    made = made.made;
    wrote = cut_of _ _ before now made.session_is wrote.front;
  }
  by_result (Err SinkFault.OutOfMemory) wrote =
      inr (
        record { made = made.made; wrote = cut_of _ _ before now made.session_is wrote.front },
        wrote.want.rose refl,
      )

  pub summary_written : (result : Result Unit SinkFault) (status : Status) → status ≡ written_as result
      → Writes (summary session) result before now faults faults_now wants wants_now
      → MadeAs status number (told before wants u) (told now wants_now v)
  summary_written result status same wrote =
      subst (λ (s : Status). MadeAs s number (told before wants u) (told now wants_now v)) (sym same)
      (by_result result wrote)

-- a write of the summary failed exactly where the sink's count rose
caused_by : (result : Result Unit SinkFault) (before now : ℕ) → HasCause SinkFault.Failed before now result
    → RisesWith (written_as result ≡ WriteFault) before now
caused_by (Ok done) before now cause = record {
  later = cause.later;
  rose = λ e. absurd (cc);
  same = λ other. cause.same (λ e. absurd (cc));
  last = cause.last;
}
caused_by (Err SinkFault.Failed) before now cause = record {
  later = cause.later;
  rose = λ e. cause.rose refl;
  same = λ other. absurd (other refl);
  last = cause.last;
}
caused_by (Err SinkFault.OutOfMemory) before now cause = record {
  later = cause.later;
  rose = λ e. absurd (cc);
  same = λ other. cause.same (λ e. absurd (cc));
  last = cause.last;
}

pub summary_caused : (result : Result Unit SinkFault) (status : Status) (before now : ℕ) → status ≡ written_as result
    → HasCause SinkFault.Failed before now result → RisesWith (status ≡ WriteFault) before now
summary_caused result status before now same cause =
    subst (λ (s : Status). RisesWith (s ≡ WriteFault) before now) (sym same) (caused_by result before now cause)

-- ---- the source

-- a making ends with no fault of reading
pub reads_no_fault : (status : Status) (number : ℕ) (before now : ToldMaking) → MadeAs status number before now
    → status ≡ ReadFault → ⊥
reads_no_fault status number before now made fault = subst (λ (s : Status). MadeAs s number before now) fault made

-- where nothing was read, the source is left as after reads that were Ok
pub making_leaves : (status : Status) (number : ℕ) (before now : ToldMaking) (after_reads after_fault : Type 0)
    → MadeAs status number before now
    → after_reads → LeftAs status after_reads after_fault
making_leaves Done number before now after_reads after_fault made led = led
making_leaves WriteFault number before now after_reads after_fault made led = led
making_leaves NoMemory number before now after_reads after_fault made led = inl led
making_leaves ReadFault number before now after_reads after_fault made led = absurd made
making_leaves BadWords number before now after_reads after_fault made led = led
making_leaves KeyLimit number before now after_reads after_fault made led = led
