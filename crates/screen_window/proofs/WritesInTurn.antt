-- Writing some bytes and then others, for the clauses `Writes`.
use Rattle.std.proofs.Common.{◌≡◌, ℕ, List, ◌++◌, Option, Ok, Err, Result, refl, ap, ◌∙◌, subst, arith}
use Rattle.std.proofs.KnownBytes.{Appends-trans}
use Rattle.std.proofs.lemmas.Result.{on_ok_weaker, on_err_weaker}
use Rattle.synth_outside.specs.Cause.{HasCause}
use Rattle.synth_outside.specs.declared.faults.SinkFault.{SinkFault}
use Rattle.screen_window.specs.Writes.{Writes}
use Rattle.screen_window.proofs.Fronts.{AppendsFront-append, AppendsFront-first}

-- a call after others that counted no fault
pub cause_after : {T E : Type 0} (fault : E) (p q s : ℕ) (result : Result T E) → q ≡ p → HasCause fault q s result → HasCause fault p s result
cause_after fault p q s result same cause = subst (λ n. HasCause fault n s result) same cause

-- the same of a call that gave no answer, and was to give another
pub cause_passed : {T U E : Type 0} (fault e : E) (p q s : ℕ) → q ≡ p → HasCause {T = U} fault q s (Err e) → HasCause {T = T} fault p s (Err e)
cause_passed fault e p q s same cause =
    record {
      later = omega (arith, same, cause.later);
      rose = λ h. let is : e ≡ fault = cc in let rose = cause.rose (ap Err is) in omega (arith, same, rose);
      same = λ other. cause.same (λ h. let is : e ≡ fault = cc in other (ap Err is)) ∙ same;
      last = λ h. cause.last (same ∙ h) ∙ same;
    }

-- all of xs was written, and then ys
pub writes_both : {T U : Type 0} (xs ys : List ℕ) (x : U) (result : Result T SinkFault) (a b c : Option (List ℕ)) (p q s u v w : ℕ)
    → Writes xs (Ok x) a b p q u v → Writes ys result b c q s v w → Writes (xs ++ ys) result a c p s u w
writes_both xs ys x result a b c p q s u v w first second = record {
  all = on_ok_weaker result (λ all. Appends-trans a b c xs ys first.all all) second.all;
  front = on_err_weaker result (λ front. AppendsFront-append a b c xs ys first.all front) second.front;
  cause = cause_after _ p q s result (first.cause.same (λ h. absurd (cc))) second.cause;
  want = cause_after _ u v w result (first.want.same (λ h. absurd (cc))) second.want;
}

-- of xs a front was written, and of ys nothing
pub writes_first : {T U : Type 0} (xs ys : List ℕ) (e : SinkFault) (a b : Option (List ℕ)) (p q u v : ℕ)
    → Writes {T = U} xs (Err e) a b p q u v → Writes {T = T} (xs ++ ys) (Err e) a b p q u v
writes_first xs ys e a b p q u v first = record {
  all = tt;
  front = AppendsFront-first a b xs ys first.front;
  cause = cause_passed _ e p p q refl first.cause;
  want = cause_passed _ e u u v refl first.want;
}
