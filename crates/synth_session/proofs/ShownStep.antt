-- A step that is shown: where one may be made, what comes of the tick is what comes of trying it.
use Rattle.std.proofs.Common.{arith, ◌≡◌, ℕ, suc, ◌+◌, ◌-◌, ◌<◌, Bool, true, false, if◌then◌else◌, [], Some, None, refl, sym, ap, ◌∙◌, subst}
use Rattle.plcs_store.specs.declared.reason.RunReason.{RunReason}
use Rattle.plcs_base.specs.PlainCounts.{PlainCounts}
use Rattle.plcs_machine.specs.Fetched.{FetchesBy}
use Rattle.synth_session.specs.declared.tick.Tick.{Tick}
use Rattle.synth_session.specs.PlainSession.{PlainSession}
use Rattle.synth_session.specs.Private.TickDone.{HasTried}
use Rattle.synth_session.specs.Tick.{CallsNext, Steps, TickOutcome, WantsInTick, after_steps, one_step, rested_in, settled, shown_step, steps_left, ticked, tried, with_pause}
use Rattle.synth_session.proofs.CodeLines.{nothing_fetched}

module _ (steps : Steps) (s now : PlainSession) (less : s.made < s.asked) where
  one_more : one_step steps (steps_left s) s ≡ shown_step (tried steps s)
  one_more =
      let more : steps_left s ≡ suc (s.asked - (s.made + 1)) = omega (arith, less) in
      ap (λ (n : ℕ). one_step steps n s) more

  shown_by : (made : Bool) → (tried steps s).made ≡ made
      → one_step steps (steps_left s) s
      ≡ (if made
      then ticked Tick.Again (record (tried steps s).after { message = [] }) (tried steps s).fetches
      else ticked Tick.Over (tried steps s).after (tried steps s).fetches)
  shown_by made is =
      one_more
      ∙ ap
      (λ (b : Bool).
      if b
      then ticked Tick.Again (record (tried steps s).after { message = [] }) (tried steps s).fetches
      else ticked Tick.Over (tried steps s).after (tried steps s).fetches)
      is

  -- one that is made
  pub shows_made : HasTried (tried steps s) s now None → (last : PlainSession) → last ≡ settled (record now { message = [] })
      → (last ≡ (one_step steps (steps_left s) s).after) × (Tick.Again ≡ (one_step steps (steps_left s) s).tick)
  shows_made tries last is =
      let outcome = shown_by true tries.0 in (
        is ∙ ap (λ (x : PlainSession). settled (record x { message = [] })) tries.1 ∙ sym (ap (λ (o : TickOutcome). o.after) outcome),
        sym (ap (λ (o : TickOutcome). o.tick) outcome),
      )

  -- one that isn't made
  pub shows_rest : (reason : RunReason) → HasTried (tried steps s) s now (Some reason) → (last : PlainSession) (told : Tick)
      → last ≡ settled (rested_in now reason now.run) → told ≡ Tick.Over
      → (last ≡ (one_step steps (steps_left s) s).after) × (told ≡ (one_step steps (steps_left s) s).tick)
  shows_rest reason tries last told is over =
      let outcome = shown_by false tries.0 in (
        is ∙ ap (λ (x : PlainSession). settled (rested_in x reason x.run)) tries.1 ∙ ap (λ (x : PlainSession). settled x) tries.2
            ∙ sym (ap (λ (o : TickOutcome). o.after) outcome),
        over ∙ sym (ap (λ (o : TickOutcome). o.tick) outcome),
      )

  -- memory runs out in it
  pub shows_want : now ≡ s → CallsNext steps s → WantsInTick steps s now
  unfolding after_steps
  shows_want same calls = record {
    number = 0;
    within = omega (arith, less);
    shown = λ shown. refl;
    made = tt;
    after = same;
    calls = subst (CallsNext steps) (sym same) calls;
  }

  either_fetches : (made : Bool) (fetches : ℕ) (one other : PlainSession)
      → (if made then ticked Tick.Again one fetches else ticked Tick.Over other fetches).fetches ≡ fetches
  either_fetches true fetches one other = refl
  either_fetches false fetches one other = refl

  -- what is fetched for it
  pub shown_fetches : (one_step steps (steps_left s) s).fetches ≡ (tried steps s).fetches
  shown_fetches =
      ap (λ (o : TickOutcome). o.fetches) one_more
      ∙ either_fetches (tried steps s).made (tried steps s).fetches (record (tried steps s).after { message = [] }) (tried steps s).after

-- none is made where all are made that the key asked for
module _ (steps : Steps) (s : PlainSession) (all : s.made ≡ s.asked) where
  pauses : one_step steps (steps_left s) s ≡ ticked Tick.Over (with_pause s) 0
  pauses =
      let none : steps_left s ≡ 0 = omega (arith, all) in
      ap (λ (n : ℕ). one_step steps n s) none

  pub shows_pause : (last : PlainSession) (told : Tick) → last ≡ settled (rested_in s RunReason.Paused s.run) → told ≡ Tick.Over
      → (last ≡ (one_step steps (steps_left s) s).after) × (told ≡ (one_step steps (steps_left s) s).tick)
  shows_pause last told rested over =
      (rested ∙ sym (ap (λ (o : TickOutcome). o.after) pauses), over ∙ sym (ap (λ (o : TickOutcome). o.tick) pauses))

  pub pause_fetched : (counts : PlainCounts) → FetchesBy (one_step steps (steps_left s) s).fetches counts counts
  pause_fetched counts =
      subst (λ (o : TickOutcome). FetchesBy o.fetches counts counts) (sym pauses) (nothing_fetched counts)
