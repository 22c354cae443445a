-- Calls on a value in memory, counted from 1, some of which are to fail.
use Rattle.std.specs.Prelude.{◌≡◌, ◌==◌, ℕ, Bool, List, Result, IsErrOf, IsTrue, ◌↔◌, if◌then◌else◌}
use Rattle.std.specs.List.{list_any}
use Rattle.plcs_base.specs.Count.{raised}
use Rattle.synth_outside.specs.Cause.{HasCause}

-- the numbers of the calls that are to fail, how many were made, and how many faults there were
pub record PlainCalls : Type 0 where
  pub fails : List ℕ
  pub made : ℕ
  pub faults : ℕ

-- whether the next call is to fail: its number, counted from 1, is in the list
abbrev pub is_failing : PlainCalls → Bool
is_failing calls = list_any (λ number. number == raised calls.made) calls.fails

-- the count of faults after one more call, which is a fault where it is to fail
abbrev pub faults_after : PlainCalls → ℕ
faults_after calls = if is_failing calls then raised calls.faults else calls.faults

-- the calls on a value in memory once one more is counted, and a fault where it is to fail
abbrev pub after_call : PlainCalls → PlainCalls
after_call calls = record calls { made = raised calls.made; faults = faults_after calls }

-- one call on a value in memory was made, it answered this fault exactly where its number is in the
-- list, and the count of faults has its cause in it
pub record MakesCall {T E : Type 0} (fault : E) (before now : PlainCalls) (result : Result T E)
    : Type 0 where
  pub one : now ≡ after_call before
  pub listed : IsErrOf result fault ↔ IsTrue (is_failing before)
  pub cause : HasCause fault before.faults now.faults result
