-- What is counted for some shots under a bill, and then for others.
use Rattle.std.proofs.Common.{◌≡◌, ◌≤◌, ℕ, ◌+◌, List, [], ◌∷◌, ◌++◌, Option, Some, None, refl, ap, subst, arith}
use Rattle.std.specs.Prelude.{option_map}
use Rattle.plcs_base.specs.PlainCounts.{PlainCounts}
use Rattle.plcs_machine.specs.Fetched.{FetchesAtMost, FetchesBy}
use Rattle.screen_window.specs.Screen.{Screen, window_rows}
use Rattle.synth_session.specs.CountedKey.{CountsPressed, CountsPressedAtMost, CountsProgram, CountsScreen}
use Rattle.synth_session.specs.PlainSession.{PlainSession}
use Rattle.synth_session.specs.SessionScreen.{grid, screen_fetches}
use Rattle.synth_top.specs.Counted.{CountsFor, FetchesFor, all_fetched, all_window_rows}
use Rattle.synth_top.specs.Turn.{KeyBill, Shot, no_bill, shot_after}

-- the screen of a session has as many rows as the session says
rows_of_grid : (s : PlainSession) → (grid s).rows ≡ s.size.rows
unfolding grid Screen
rows_of_grid s = refl

-- the windows of some shots and of others, and what was fetched for both
rows-append : (xs ys : List Shot) → all_window_rows (xs ++ ys) ≡ all_window_rows xs + all_window_rows ys
rows-append [] ys = omega arith
rows-append (x ∷ xs) ys = let rest = rows-append xs ys in omega (arith, rest)

pub fetched-append : (xs ys : List Shot) → all_fetched (xs ++ ys) ≡ all_fetched xs + all_fetched ys
fetched-append [] ys = omega arith
fetched-append (x ∷ xs) ys = let rest = fetched-append xs ys in omega (arith, rest)

-- ---- one thing that was done

-- nothing was counted
pub counts_nothing : (a : PlainCounts) → CountsFor no_bill [] None a a
counts_nothing a = record {
  emitted = omega arith;
  emitted_later = omega arith;
  checked = omega arith;
  checked_later = omega arith;
  fetched = omega arith;
  laid = omega arith;
  laid_later = omega arith;
}

-- a bill may be larger
pub counts_within : (few many : KeyBill) (made : List Shot) (due : Option ℕ) (a b : PlainCounts) → few.checks ≤ many.checks → few.emits ≤ many.emits
    → CountsFor few made due a b → CountsFor many made due a b
counts_within few many made due a b checks emits counts = record {
  emitted = omega (arith, emits, counts.emitted);
  emitted_later = counts.emitted_later;
  checked = omega (arith, checks, counts.checked);
  checked_later = counts.checked_later;
  fetched = counts.fetched;
  laid = counts.laid;
  laid_later = counts.laid_later;
}

-- a program came to be another, and no shot was shown
pub counts_program : (bill : KeyBill) (a b : PlainCounts) → CountsProgram bill.checks bill.emits a b → CountsFor bill [] None a b
counts_program bill a b program = record {
  emitted = program.emitted;
  emitted_later = program.emitted_later;
  checked = program.checked;
  checked_later = program.checked_later;
  fetched = omega (arith, program.fetched);
  laid = omega (arith, program.laid);
  laid_later = omega (arith, program.laid);
}

-- a screen was drawn for the shot of a session, before which so much was fetched that isn't counted here
pub counts_shot : (s : PlainSession) (a b : PlainCounts) → CountsScreen (window_rows s.size.rows) (screen_fetches s) a b
    → CountsFor no_bill (shot_after 0 s ∷ []) None a b
counts_shot s a b screen =
    let rows = ap window_rows (rows_of_grid s) in
    record {
      emitted = omega (arith, screen.emitted);
      emitted_later = omega (arith, screen.emitted);
      checked = omega (arith, screen.checked);
      checked_later = omega (arith, screen.checked);
      fetched = omega (arith, screen.fetched);
      laid = omega (arith, screen.laid, rows);
      laid_later = screen.laid_later;
    }

-- ---- one thing after the other

-- how many instructions were due in all, where so many were due after some shots
abbrev pub due_after : List Shot → Option ℕ → Option ℕ
due_after made due = option_map (λ number. all_fetched made + number) due

due_nothing : (due : Option ℕ) → due_after [] due ≡ due
due_nothing None = refl
due_nothing (Some number) = ap (λ (n : ℕ). Some n) (zero_plus number) where
  zero_plus : (n : ℕ) → 0 + n ≡ n
  zero_plus n = omega arith

fetches_both : (xs ys : List Shot) (due : Option ℕ) (a b c : ℕ) → FetchesFor (all_fetched xs) None a b → FetchesFor (all_fetched ys) due b c
    → FetchesFor (all_fetched (xs ++ ys)) (due_after xs due) a c
fetches_both xs ys None a b c first rest = omega (arith, first, rest, fetched-append xs ys)
fetches_both xs ys (Some number) a b c first rest =
    (omega (arith, first, rest.0, fetched-append xs ys), omega (arith, first, rest.1))

-- some shots before others, under a bill for both
pub counts_both : (one other both : KeyBill) (xs ys : List Shot) (due : Option ℕ) (a b c : PlainCounts) → one.checks + other.checks ≤ both.checks
    → one.emits + other.emits ≤ both.emits → CountsFor one xs None a b → CountsFor other ys due b c
    → CountsFor both (xs ++ ys) (due_after xs due) a c
counts_both one other both xs ys due a b c checks emits first rest = record {
  emitted = omega (arith, emits, first.emitted, rest.emitted);
  emitted_later = omega (arith, first.emitted_later, rest.emitted_later);
  checked = omega (arith, checks, first.checked, rest.checked);
  checked_later = omega (arith, first.checked_later, rest.checked_later);
  fetched = fetches_both xs ys due a.fetched b.fetched c.fetched first.fetched rest.fetched;
  laid = omega (arith, first.laid, rest.laid, rows-append xs ys);
  laid_later = omega (arith, first.laid_later, rest.laid_later);
}

-- some that were shown after nothing was
pub counts_after_none : (one other both : KeyBill) (ys : List Shot) (due : Option ℕ) (a b c : PlainCounts) → one.checks + other.checks ≤ both.checks
    → one.emits + other.emits ≤ both.emits → CountsFor one [] None a b → CountsFor other ys due b c → CountsFor both ys due a c
counts_after_none one other both ys due a b c checks emits first rest =
    subst (λ (d : Option ℕ). CountsFor both ys d a c) (due_nothing due) (counts_both one other both [] ys due a b c checks emits first rest)

-- ---- a key that was pressed, and what was shown after it

-- the shots of a turn are as the ones after its press, but that what was fetched in the press is counted for them too
pub record CountsPress (fetches : ℕ) (made whole : List Shot) : Type 0 where
  pub rows : all_window_rows whole ≡ all_window_rows made
  pub fetched : all_fetched whole ≡ fetches + all_fetched made

-- all that was due in the turn was made
pub counts_turn : (bill : KeyBill) (fetches : ℕ) (made whole : List Shot) (a b c : PlainCounts) → CountsPress fetches made whole
    → CountsPressed bill.checks bill.emits fetches fetches a b → CountsFor no_bill made None b c → CountsFor bill whole None a c
counts_turn bill fetches made whole a b c turn press counts = record {
  emitted = omega (arith, press.emitted, counts.emitted);
  emitted_later = omega (arith, press.emitted_later, counts.emitted_later);
  checked = omega (arith, press.checked, counts.checked);
  checked_later = omega (arith, press.checked_later, counts.checked_later);
  fetched = omega (arith, turn.fetched, press.fetched_least, press.fetched_most, counts.fetched);
  laid = omega (arith, turn.rows, press.laid, counts.laid);
  laid_later = omega (arith, press.laid, counts.laid_later);
}

-- memory ran out in the turn after the shots that were made
pub counts_turn_left : (bill : KeyBill) (fetches number due : ℕ) (made whole : List Shot) (a b c : PlainCounts)
    → all_window_rows whole ≡ all_window_rows made → all_fetched whole ≤ fetches + all_fetched made → fetches + number ≤ due
    → CountsPressed bill.checks bill.emits fetches fetches a b → CountsFor no_bill made (Some number) b c → CountsFor bill whole (Some due) a c
counts_turn_left bill fetches number due made whole a b c rows fetched within press counts = record {
  emitted = omega (arith, press.emitted, counts.emitted);
  emitted_later = omega (arith, press.emitted_later, counts.emitted_later);
  checked = omega (arith, press.checked, counts.checked);
  checked_later = omega (arith, press.checked_later, counts.checked_later);
  fetched = (
    omega (arith, fetched, press.fetched_least, counts.fetched.0),
    omega (arith, within, press.fetched_most, counts.fetched.1),
  );
  laid = omega (arith, rows, press.laid, counts.laid);
  laid_later = omega (arith, press.laid, counts.laid_later);
}

-- shots were shown, and the key after them wanted memory
pub counts_wanted : (one other both : KeyBill) (fetches due : ℕ) (xs : List Shot) (a b c : PlainCounts) → one.checks + other.checks ≤ both.checks
    → one.emits + other.emits ≤ both.emits → all_fetched xs + fetches ≤ due → CountsFor one xs None a b
    → CountsPressedAtMost other.checks other.emits fetches b c → CountsFor both xs (Some due) a c
counts_wanted one other both fetches due xs a b c checks emits within counts press = record {
  emitted = omega (arith, emits, counts.emitted, press.emitted);
  emitted_later = omega (arith, counts.emitted_later, press.emitted_later);
  checked = omega (arith, checks, counts.checked, press.checked);
  checked_later = omega (arith, counts.checked_later, press.checked_later);
  fetched = (
    omega (arith, counts.fetched, press.fetched_later),
    omega (arith, within, counts.fetched, press.fetched),
  );
  laid = omega (arith, counts.laid, press.laid);
  laid_later = omega (arith, counts.laid_later, press.laid);
}

-- ---- a tick, and the shot after it

-- a tick was made, and a screen drawn after it
pub counts_tick : (fetches number : ℕ) (s : PlainSession) (a b c : PlainCounts) → number ≡ fetches → FetchesBy fetches a b
    → CountsScreen (window_rows s.size.rows) (screen_fetches s) b c → CountsFor no_bill (shot_after number s ∷ []) None a c
counts_tick fetches number s a b c same tick screen =
    let rows = ap window_rows (rows_of_grid s) in
    let emitted = ap (λ (u : PlainCounts). u.emitted) tick in
    let checked = ap (λ (u : PlainCounts). u.checked) tick in
    let fetched = ap (λ (u : PlainCounts). u.fetched) tick in
    let laid = ap (λ (u : PlainCounts). u.laid) tick in
    record {
      emitted = omega (arith, emitted, screen.emitted);
      emitted_later = omega (arith, emitted, screen.emitted);
      checked = omega (arith, checked, screen.checked);
      checked_later = omega (arith, checked, screen.checked);
      fetched = omega (arith, same, fetched, screen.fetched);
      laid = omega (arith, laid, screen.laid, rows);
      laid_later = omega (arith, laid, screen.laid_later);
    }

-- shots were made, and memory ran out in the tick after them
pub counts_tick_wanted : (fetches due : ℕ) (xs : List Shot) (a b c : PlainCounts) → all_fetched xs + fetches ≤ due
    → CountsFor no_bill xs None a b → FetchesAtMost fetches b c → CountsFor no_bill xs (Some due) a c
counts_tick_wanted fetches due xs a b c within counts tick =
    let emitted = ap (λ (u : PlainCounts). u.emitted) tick.others in
    let checked = ap (λ (u : PlainCounts). u.checked) tick.others in
    let laid = ap (λ (u : PlainCounts). u.laid) tick.others in
    record {
      emitted = omega (arith, emitted, counts.emitted);
      emitted_later = omega (arith, emitted, counts.emitted_later);
      checked = omega (arith, checked, counts.checked);
      checked_later = omega (arith, checked, counts.checked_later);
      fetched = (omega (arith, counts.fetched, tick.later), omega (arith, within, counts.fetched, tick.most));
      laid = omega (arith, laid, counts.laid);
      laid_later = omega (arith, laid, counts.laid_later);
    }
