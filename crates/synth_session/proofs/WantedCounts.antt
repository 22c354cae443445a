-- `counts` of keys in which memory runs out: what is counted is within what their outcomes say.
use Rattle.std.proofs.Common.{◌≡◌, ℕ, refl, ap, arith}
use Rattle.plcs_base.specs.PlainCounts.{PlainCounts}
use Rattle.plcs_machine.specs.Fetched.{FetchesAtMost}
use Rattle.synth_session.specs.CountedKey.{CountsPressedAtMost, CountsProgram}

-- nothing counted is within every bound
pub want_free : {counts : PlainCounts} (checks emits fetches : ℕ) → CountsPressedAtMost checks emits fetches counts counts
want_free checks emits fetches =
    record {
      checked = omega arith;
      checked_later = omega arith;
      emitted = omega arith;
      emitted_later = omega arith;
      fetched = omega arith;
      fetched_later = omega arith;
      laid = refl;
    }

-- what a program counts that comes to be another
pub want_counted : {before now : PlainCounts} (checks emits fetches : ℕ) → CountsProgram checks emits before now
    → CountsPressedAtMost checks emits fetches before now
want_counted {before} {now} checks emits fetches c =
    let fetched = c.fetched in
    record {
      checked = c.checked;
      checked_later = c.checked_later;
      emitted = c.emitted;
      emitted_later = c.emitted_later;
      fetched = omega (arith, fetched);
      fetched_later = omega (arith, fetched);
      laid = c.laid;
    }

-- instructions alone are fetched
pub want_fetched : {before now : PlainCounts} (checks emits fetches : ℕ) → FetchesAtMost fetches before now
    → CountsPressedAtMost checks emits fetches before now
want_fetched {before} {now} checks emits fetches c =
    let checked_so : now.checked ≡ before.checked = ap (λ (x : PlainCounts). x.checked) c.others in
    let emitted_so : now.emitted ≡ before.emitted = ap (λ (x : PlainCounts). x.emitted) c.others in
    record {
      checked = omega (arith, checked_so);
      checked_later = omega (arith, checked_so);
      emitted = omega (arith, emitted_so);
      emitted_later = omega (arith, emitted_so);
      fetched = c.most;
      fetched_later = c.later;
      laid = ap (λ (x : PlainCounts). x.laid) c.others;
    }
