-- What ticks leave of a session, and that the run goes on after one that shows a step.
use Rattle.std.proofs.Common.{arith, ◌≡◌, ℕ, zero, suc, ◌+◌, ◌-◌, Bool, true, false, if◌then◌else◌, [], Option, Some, None, refl, ◌∙◌}
use Rattle.std.specs.Prelude.{IsSome}
use Rattle.std.proofs.Math.Bool.{false≢true}
use Rattle.plcs_machine.specs.Exec.{FetchedAnswer}
use Rattle.plcs_store.specs.declared.reason.RunReason.{RunReason}
use Rattle.plcs_store.specs.Step.{PlainStepAnswer}
use Rattle.synth_session.specs.declared.tick.Tick.{Tick}
use Rattle.synth_session.specs.PlainRun.{PlainRun}
use Rattle.synth_session.specs.PlainSession.{PlainSession}
use Rattle.synth_session.specs.RunStop.{with_cursor_at_run}
use Rattle.synth_session.specs.Tick.{GoesOnAfter, KeepsProgram, ShownTicksGoOn, Steps, TickOutcome, TicksKeepProgram, all_steps, one_step, with_pause, rested_in, settled, steps_left, tick, ticked, tried, tried_if, tried_in, tried_with, with_more}

-- ---- what a tick leaves

-- what is left of a session that was left so of another
after_kept : (a b c : PlainSession) → KeepsProgram a b → KeepsProgram b c → KeepsProgram a c
after_kept a b c h k = record { tree = k.tree ∙ h.tree; input = k.input ∙ h.input; trace = k.trace ∙ h.trace }

same_kept : (s : PlainSession) → KeepsProgram s s
same_kept s = record { tree = refl; input = refl; trace = refl }

-- a step that is tried
answered_keeps : (s : PlainSession) (run : PlainRun) (fetches : ℕ) (answer : PlainStepAnswer) → KeepsProgram s (tried_with s run fetches answer).after
answered_keeps s run fetches (PlainStepAnswer.stepped next) = record { tree = refl; input = refl; trace = refl }
answered_keeps s run fetches (PlainStepAnswer.stopped reason) = record { tree = refl; input = refl; trace = refl }
answered_keeps s run fetches PlainStepAnswer.ended = record { tree = refl; input = refl; trace = refl }

tried_if_keeps : (s : PlainSession) (run : PlainRun) (answer : Option FetchedAnswer) → KeepsProgram s (tried_if s run answer).after
tried_if_keeps s run None = same_kept s
tried_if_keeps s run (Some answer) = answered_keeps s run answer.fetches answer.result

tried_in_keeps : (steps : Steps) (s : PlainSession) (run : Option PlainRun) → KeepsProgram s (tried_in steps s run).after
tried_in_keeps steps s None = same_kept s
tried_in_keeps steps s (Some run) = tried_if_keeps s run (steps run.configuration)

tried_keeps : (steps : Steps) (s : PlainSession) → KeepsProgram s (tried steps s).after
unfolding tried
tried_keeps steps s = tried_in_keeps steps s s.run

rested_keeps : (s : PlainSession) (reason : RunReason) (run : Option PlainRun) → KeepsProgram s (rested_in s reason run)
rested_keeps s reason None = same_kept s
rested_keeps s reason (Some run) = record { tree = refl; input = refl; trace = refl }

paused_keeps : (s : PlainSession) → KeepsProgram s (with_pause s)
paused_keeps s = rested_keeps s RunReason.Paused s.run

-- a session that is settled
settled_keeps : (s : PlainSession) → KeepsProgram s (settled s)
unfolding with_cursor_at_run
settled_keeps s = record { tree = refl; input = refl; trace = refl }

rests_keep : (s rested : PlainSession) → KeepsProgram s rested → KeepsProgram s (settled rested)
rests_keep s rested h = after_kept s rested (settled rested) h (settled_keeps rested)

-- a tick after a step, by whether that was made
after_keeps : (made : Bool) (s after : PlainSession) (fetches : ℕ) (go : PlainSession → TickOutcome) → KeepsProgram s after
    → ((x : PlainSession) → KeepsProgram x (go x).after)
    → KeepsProgram s (if made then with_more fetches (go after) else ticked Tick.Over after fetches).after
after_keeps true s after fetches go h k = after_kept s after (go after).after h (k after)
after_keeps false s after fetches go h k = rests_keep s after h

all_keep : (steps : Steps) (left : ℕ) (s : PlainSession) → KeepsProgram s (all_steps steps left s).after
unfolding all_steps
all_keep steps zero s = rests_keep s (with_pause s) (paused_keeps s)
all_keep steps (suc left) s =
    after_keeps (tried steps s).made s (tried steps s).after (tried steps s).fetches (all_steps steps left) (tried_keeps steps s) (all_keep steps left)

-- a tick that shows a step, by whether that was made
shown_keeps : (made : Bool) (s after : PlainSession) (fetches : ℕ) → KeepsProgram s after
    → KeepsProgram s (if made then ticked Tick.Again (record after { message = [] }) fetches else ticked Tick.Over after fetches).after
shown_keeps true s after fetches h = rests_keep s (record after { message = [] }) (record { tree = h.tree; input = h.input; trace = h.trace })
shown_keeps false s after fetches h = rests_keep s after h

one_keeps : (steps : Steps) (left : ℕ) (s : PlainSession) → KeepsProgram s (one_step steps left s).after
one_keeps steps zero s = rests_keep s (with_pause s) (paused_keeps s)
one_keeps steps (suc left) s = shown_keeps (tried steps s).made s (tried steps s).after (tried steps s).fetches (tried_keeps steps s)

either_keeps : (trace : Bool) (s : PlainSession) (one other : TickOutcome) → KeepsProgram s one.after → KeepsProgram s other.after
    → KeepsProgram s (if trace then one else other).after
either_keeps true s one other h k = h
either_keeps false s one other h k = k

pub ticks_keep : TicksKeepProgram
unfolding tick
ticks_keep steps s =
    either_keeps s.trace s (one_step steps (steps_left s) s) (all_steps steps (steps_left s) s) (one_keeps steps (steps_left s) s)
    (all_keep steps (steps_left s) s)

-- ---- that the run goes on

-- what is so of a session after a step that was made
pub record Stepped (s after : PlainSession) : Type 0 where
  pub stands : IsSome after.run
  pub made : after.made ≡ s.made + 1
  pub asked : after.asked ≡ s.asked

answered_steps : (s : PlainSession) (run : PlainRun) (fetches : ℕ) (answer : PlainStepAnswer) → (tried_with s run fetches answer).made ≡ true
    → Stepped s (tried_with s run fetches answer).after
answered_steps s run fetches (PlainStepAnswer.stepped next) made = record { stands = refl; made = refl; asked = refl }
answered_steps s run fetches (PlainStepAnswer.stopped reason) made = absurd (false≢true made)
answered_steps s run fetches PlainStepAnswer.ended made = absurd (false≢true made)

tried_if_steps : (s : PlainSession) (run : PlainRun) (answer : Option FetchedAnswer) → (tried_if s run answer).made ≡ true
    → Stepped s (tried_if s run answer).after
tried_if_steps s run None made = absurd (false≢true made)
tried_if_steps s run (Some answer) made = answered_steps s run answer.fetches answer.result made

tried_in_steps : (steps : Steps) (s : PlainSession) (run : Option PlainRun) → (tried_in steps s run).made ≡ true → Stepped s (tried_in steps s run).after
tried_in_steps steps s None made = absurd (false≢true made)
tried_in_steps steps s (Some run) made = tried_if_steps s run (steps run.configuration) made

pub tried_steps : (steps : Steps) (s : PlainSession) → (tried steps s).made ≡ true → Stepped s (tried steps s).after
unfolding tried
tried_steps steps s made = tried_in_steps steps s s.run made

-- the run goes on after a step that is shown, where so many may be made yet
settled_goes_on : (s after : PlainSession) (left : ℕ) → s.asked - s.made ≡ suc left → Stepped s after
    → GoesOnAfter s (settled (record after { message = [] }))
unfolding with_cursor_at_run
settled_goes_on s after left e h =
    let made = h.made in
    let asked = h.asked in
    record {
      running = record { stands = h.stands; within = omega (arith, e, made, asked) };
      fewer = omega (arith, e, made, asked);
    }

shown_goes_on : (made : Bool) (s after : PlainSession) (left fetches : ℕ) → s.asked - s.made ≡ suc left → (made ≡ true → Stepped s after)
    → (if made then ticked Tick.Again (record after { message = [] }) fetches else ticked Tick.Over after fetches).tick ≡ Tick.Again
    → GoesOnAfter s (if made then ticked Tick.Again (record after { message = [] }) fetches else ticked Tick.Over after fetches).after
shown_goes_on true s after left fetches e h again = settled_goes_on s after left e (h refl)
shown_goes_on false s after left fetches e h again = absurd (cc)

one_goes_on : (steps : Steps) (left : ℕ) (s : PlainSession) → s.asked - s.made ≡ left → (one_step steps left s).tick ≡ Tick.Again
    → GoesOnAfter s (one_step steps left s).after
one_goes_on steps zero s e again = absurd (cc)
one_goes_on steps (suc left) s e again =
    shown_goes_on (tried steps s).made s (tried steps s).after left (tried steps s).fetches e (tried_steps steps s) again

-- the steps of a tick that shows none are over
after_over : (made : Bool) (after : PlainSession) (fetches : ℕ) (go : PlainSession → TickOutcome) → ((x : PlainSession) → (go x).tick ≡ Tick.Over)
    → (if made then with_more fetches (go after) else ticked Tick.Over after fetches).tick ≡ Tick.Over
after_over true after fetches go h = h after
after_over false after fetches go h = refl

all_over : (steps : Steps) (left : ℕ) (s : PlainSession) → (all_steps steps left s).tick ≡ Tick.Over
unfolding all_steps
all_over steps zero s = refl
all_over steps (suc left) s =
    after_over (tried steps s).made (tried steps s).after (tried steps s).fetches (all_steps steps left) (all_over steps left)

either_goes_on : (trace : Bool) (s : PlainSession) (one other : TickOutcome) → (one.tick ≡ Tick.Again → GoesOnAfter s one.after)
    → other.tick ≡ Tick.Over → (if trace then one else other).tick ≡ Tick.Again → GoesOnAfter s (if trace then one else other).after
either_goes_on true s one other h over again = h again
either_goes_on false s one other h over again = absurd (cc)

pub shown_ticks_go_on : ShownTicksGoOn
unfolding tick
shown_ticks_go_on steps s running =
    either_goes_on s.trace s (one_step steps (steps_left s) s) (all_steps steps (steps_left s) s)
    (one_goes_on steps (steps_left s) s refl) (all_over steps (steps_left s) s)
