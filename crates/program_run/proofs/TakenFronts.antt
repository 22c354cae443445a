-- Bytes of an output of which a sink took a front.
use Rattle.std.proofs.Common.{◌≡◌, ℕ, ◌+◌, ◌-◌, List, Option, Err, length, take, drop, sym, ap, ◌∙◌, subst, arith}
use Rattle.std.proofs.lemmas.List.{take_all, length-drop}
use Rattle.std.proofs.Math.Seq.{take-add}
use Rattle.std.proofs.KnownBytes.{Appends-trans}
use Rattle.std.specs.Io.KnownBytes.{Appends}
use Rattle.synth_outside.specs.Cause.{HasCause}
use Rattle.synth_outside.specs.Sink.{AppendsFront}

-- the bytes before `at`, and then some of those behind
pub Appends-more : (a b c : Option (List ℕ)) (bytes : List ℕ) (at count : ℕ) → Appends a b (take at bytes) → Appends b c (take count (drop at bytes))
    → Appends a c (take (at + count) bytes)
Appends-more a b c bytes at count first second =
    subst (Appends a c) (sym (take-add at count bytes)) (Appends-trans a b c (take at bytes) (take count (drop at bytes)) first second)

-- the bytes before `at`, and then a front of those behind
pub AppendsFront-more : (a b c : Option (List ℕ)) (bytes : List ℕ) (at : ℕ) → Appends a b (take at bytes) → AppendsFront b c (drop at bytes)
    → AppendsFront a c bytes
AppendsFront-more a b c bytes at first front = (at + front.0, Appends-more a b c bytes at front.0 first front.1)

-- what lies behind a place, as a slice from there on
pub take-rest : (bytes : List ℕ) (at : ℕ) → take (length bytes - at) (drop at bytes) ≡ drop at bytes
take-rest bytes at = take_all (length bytes - at) (drop at bytes) (omega (arith, length-drop at bytes))

-- a call after others that counted no fault, which gave no answer, and was to give another
pub cause_passed : {T U E : Type 0} (fault e : E) (p q s : ℕ) → q ≡ p → HasCause {T = U} fault q s (Err e) → HasCause {T = T} fault p s (Err e)
cause_passed fault e p q s same cause =
    record {
      later = omega (arith, same, cause.later);
      rose = λ h. let is : e ≡ fault = cc in let rose = cause.rose (ap Err is) in omega (arith, same, rose);
      same = λ other. cause.same (λ h. let is : e ≡ fault = cc in other (ap Err is)) ∙ same;
      last = λ h. cause.last (same ∙ h) ∙ same;
    }
