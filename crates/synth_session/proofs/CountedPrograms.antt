-- What is counted at most where the program comes to be another, and in keys: nothing counted is within every bound,
-- and what an edit counts is what its key does.
use Rattle.std.proofs.Common.{◌≡◌, ◌≤◌, ℕ, Bool, true, false, if◌then◌else◌, List, refl, ap, arith, ◌∙◌}
use Rattle.plcs_base.specs.Count.{raised_by}
use Rattle.plcs_base.specs.PlainCounts.{ChecksAtMost, PlainCounts}
use Rattle.plcs_code.specs.Counts.{EmitsAtMost}
use Rattle.clip_store.specs.ClipLimit.{is_full}
use Rattle.session_edit.specs.Here.{takes_at}
use Rattle.synth_session.specs.declared.answer.ClipRefusal.{ClipRefusal}
use Rattle.synth_session.specs.declared.answer.Refusal.TheVariants as why
use Rattle.synth_session.specs.ClipCommands.{slots_there}
use Rattle.synth_session.specs.CountedKey.{CountsPressed, CountsProgram}
use Rattle.synth_session.specs.KeyOutcome.{KeyOutcome, refusal_outcome}
use Rattle.synth_session.specs.PlainSession.{PlainSession}

-- ---- a count that isn't raised

none_raised : (count : ℕ) → raised_by 0 count ≤ count
none_raised count = omega arith

not_below : (count : ℕ) → count ≤ raised_by 0 count
not_below count = omega arith

-- ---- a program that comes to be another

-- nothing counted is within every bound
pub program_free : {counts : PlainCounts} (checks emits : ℕ) → CountsProgram checks emits counts counts
program_free checks emits =
    record {
      checked = omega arith;
      checked_later = omega arith;
      emitted = omega arith;
      emitted_later = omega arith;
      fetched = refl;
      laid = refl;
    }

-- phrases are checked first, and then instructions emitted
pub program_counted : {before between now : PlainCounts} (checks emits : ℕ) → ChecksAtMost checks before between → EmitsAtMost emits between now
    → CountsProgram checks emits before now
program_counted {before} {between} {now} checks emits c e =
    let most = c.most in
    let later = c.later in
    let emitted_most = e.most in
    let emitted_later = e.later in
    let emitted_so : between.emitted ≡ before.emitted = ap (λ (x : PlainCounts). x.emitted) c.others in
    let fetched_so : between.fetched ≡ before.fetched = ap (λ (x : PlainCounts). x.fetched) c.others in
    let laid_so : between.laid ≡ before.laid = ap (λ (x : PlainCounts). x.laid) c.others in
    let checked_now : now.checked ≡ between.checked = ap (λ (x : PlainCounts). x.checked) e.others in
    let fetched_now : now.fetched ≡ between.fetched = ap (λ (x : PlainCounts). x.fetched) e.others in
    let laid_now : now.laid ≡ between.laid = ap (λ (x : PlainCounts). x.laid) e.others in
    record {
      checked = omega (arith, most, checked_now);
      checked_later = omega (arith, later, checked_now);
      emitted = omega (arith, emitted_most, emitted_so);
      emitted_later = omega (arith, emitted_later, emitted_so);
      fetched = fetched_now ∙ fetched_so;
      laid = laid_now ∙ laid_so;
    }

-- phrases alone are checked
pub program_checked : {before now : PlainCounts} (checks emits : ℕ) → ChecksAtMost checks before now → CountsProgram checks emits before now
program_checked {before} {now} checks emits c =
    let emitted_so : now.emitted ≡ before.emitted = ap (λ (x : PlainCounts). x.emitted) c.others in
    record {
      checked = c.most;
      checked_later = c.later;
      emitted = omega (arith, emitted_so);
      emitted_later = omega (arith, emitted_so);
      fetched = ap (λ (x : PlainCounts). x.fetched) c.others;
      laid = ap (λ (x : PlainCounts). x.laid) c.others;
    }

-- ---- keys

-- nothing counted is within the bounds of a key that fetches nothing
pub key_free : {counts : PlainCounts} (checks emits : ℕ) → CountsPressed checks emits 0 0 counts counts
key_free {counts} checks emits =
    record {
      checked = omega arith;
      checked_later = omega arith;
      emitted = omega arith;
      emitted_later = omega arith;
      fetched_least = none_raised counts.fetched;
      fetched_most = not_below counts.fetched;
      laid = refl;
    }

-- what a program counts that comes to be another is what its key does
pub key_counted : {before now : PlainCounts} (checks emits : ℕ) → CountsProgram checks emits before now
    → CountsPressed checks emits 0 0 before now
key_counted {before} {now} checks emits c =
    let fetched = c.fetched in
    record {
      checked = c.checked;
      checked_later = c.checked_later;
      emitted = c.emitted;
      emitted_later = c.emitted_later;
      fetched_least = rw fetched (none_raised before.fetched);
      fetched_most = rw fetched (not_below before.fetched);
      laid = c.laid;
    }

-- what stands at the cursor can be taken out, and the clips have room: then this comes of the key
pub clip_fits : (s : PlainSession) (name : List ℕ) (fitting : KeyOutcome) (P : KeyOutcome → Type 0) → takes_at s.tree s.stop ≡ true
    → is_full name (slots_there s.tree s.stop) s.clips ≡ false → P fitting
    → P (if takes_at s.tree s.stop
    then (if is_full name (slots_there s.tree s.stop) s.clips then refusal_outcome s (why.Clip ClipRefusal.Full) else fitting)
    else refusal_outcome s why.NotHere)
clip_fits s name fitting P takes fits h = by (takes_at s.tree s.stop) takes (is_full name (slots_there s.tree s.stop) s.clips) fits
  where
    by : (takes : Bool) → takes ≡ true → (full : Bool) → full ≡ false
        → P (if takes then (if full then refusal_outcome s (why.Clip ClipRefusal.Full) else fitting) else refusal_outcome s why.NotHere)
    by true takes false fits = h
    by true takes true fits = absurd (cc)
    by false takes full fits = absurd (cc)
