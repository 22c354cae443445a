-- The steps of a tick that shows none, one after the other: each that is made goes on to the others, and each that
-- isn't ends them.
use Rattle.std.proofs.Common.{arith, ◌≡◌, ℕ, zero, suc, ◌+◌, ◌-◌, ◌<◌, ◌≤◌, Bool, true, false, if◌then◌else◌, List, Some, None, refl, sym, ap, ap₂, ◌∙◌, subst}
use Rattle.std.specs.Prelude.{IsSome}
use Rattle.std.proofs.Math.Bool.{false≢true}
use Rattle.plcs_base.specs.PlainCounts.{PlainCounts}
use Rattle.plcs_store.specs.declared.reason.RunReason.{RunReason}
use Rattle.plcs_machine.specs.Exec.{Exec}
use Rattle.plcs_machine.specs.Fetched.{FetchesAtMost, FetchesBy}
use Rattle.code_patch.specs.CodeForest.{told_code}
use Rattle.synth_session.specs.declared.program.Program.{Program}
use Rattle.synth_session.specs.declared.session.Session.{Session}
use Rattle.synth_session.specs.declared.tick.Tick.{Tick}
use Rattle.synth_session.specs.PlainSession.{PlainSession}
use Rattle.synth_session.specs.SessionView.{HasCode, HasProgramCode, own_steps}
use Rattle.synth_session.specs.Private.TickDone.{HasTried}
use Rattle.synth_session.specs.Private.TickLoop.{SoFar}
use Rattle.synth_session.specs.Tick.{AreDefined, AreMade, CallsNext, IsRunning, Steps, TickOutcome, Tried, WantsInTick, after_steps, all_steps, tick_after, next_answer, rested_in, settled, steps_left, with_pause, ticked, tried, with_more}
use Rattle.synth_session.proofs.CodeLines.{nothing_fetched}
use Rattle.synth_session.proofs.FetchedSteps.{both_fetched, fewer_fetched, then_fetched}
use Rattle.synth_session.proofs.ShownTicks.{tried_steps}

-- ---- what comes of one step more

after_made : (step : Tried) (go : PlainSession → TickOutcome) → step.made ≡ true → tick_after step go ≡ with_more step.fetches (go step.after)
after_made step go made = ap (λ (b : Bool). if b then with_more step.fetches (go step.after) else ticked Tick.Over step.after step.fetches) made

after_rest : (step : Tried) (go : PlainSession → TickOutcome) → step.made ≡ false → tick_after step go ≡ ticked Tick.Over step.after step.fetches
after_rest step go rests = ap (λ (b : Bool). if b then with_more step.fetches (go step.after) else ticked Tick.Over step.after step.fetches) rests

more_and_more : (one other : ℕ) (outcome : TickOutcome) → with_more one (with_more other outcome) ≡ with_more (one + other) outcome
more_and_more one other outcome =
    let sum : one + (other + outcome.fetches) ≡ one + other + outcome.fetches = omega arith in
    ap (λ (n : ℕ). record outcome { fetches = n }) sum

-- a step that is made goes on
pub goes_on : (steps : Steps) (left fetched : ℕ) (first : TickOutcome) (s : PlainSession) → (tried steps s).made ≡ true
    → first ≡ with_more fetched (all_steps steps (suc left) s)
    → first ≡ with_more (fetched + (tried steps s).fetches) (all_steps steps left (tried steps s).after)
unfolding all_steps
goes_on steps left fetched first s made same =
    same
    ∙ ap (with_more fetched) (after_made (tried steps s) (all_steps steps left) made)
    ∙ more_and_more fetched (tried steps s).fetches (all_steps steps left (tried steps s).after)

-- a step that isn't made ends them
pub ends : (steps : Steps) (left fetched : ℕ) (first : TickOutcome) (s : PlainSession) → (tried steps s).made ≡ false
    → first ≡ with_more fetched (all_steps steps (suc left) s)
    → first ≡ with_more fetched (ticked Tick.Over (tried steps s).after (tried steps s).fetches)
unfolding all_steps
ends steps left fetched first s rests same = same ∙ ap (with_more fetched) (after_rest (tried steps s) (all_steps steps left) rests)

-- where none may be made more, the run is paused
pub pauses : (steps : Steps) (fetched : ℕ) (first : TickOutcome) (s : PlainSession) → first ≡ with_more fetched (all_steps steps zero s)
    → first ≡ with_more fetched (ticked Tick.Over (with_pause s) 0)
unfolding all_steps
pauses steps fetched first s same = same

-- ---- where they begin

nothing_more : (outcome : TickOutcome) → outcome ≡ with_more 0 outcome
nothing_more outcome =
    let none : outcome.fetches ≡ 0 + outcome.fetches = omega arith in
    ap (λ (n : ℕ). record outcome { fetches = n }) none

-- ---- those that are made

-- one step more of a session
pub after_more : (steps : Steps) (number : ℕ) (first now : PlainSession) → now ≡ after_steps steps number first
    → (tried steps now).after ≡ after_steps steps (suc number) first
unfolding after_steps
after_more steps number first now after = ap (λ (s : PlainSession). (tried steps s).after) after

pub made_more : (steps : Steps) (number : ℕ) (first now : PlainSession) → now ≡ after_steps steps number first → AreMade steps number first
    → (tried steps now).made ≡ true → AreMade steps (suc number) first
made_more steps number first now after are_made made =
    (are_made, subst (λ (s : PlainSession). (tried steps s).made ≡ true) after made)

-- what is defined of the others
pub defined_more : (steps : Steps) (left : ℕ) (s : PlainSession) → AreDefined steps (suc left) s → (tried steps s).made ≡ true
    → AreDefined steps left (tried steps s).after
defined_more steps left s defined made = defined.1 made

-- ---- what the steps of a tick have come to

-- how many are left, where one may be made
left_more : (s : PlainSession) → s.made < s.asked → steps_left s ≡ suc (s.asked - (s.made + 1))
left_more s less = omega (arith, less)

-- the steps of a session with the same code and the same input are the same
pub own_same : {W : Type 0} (one other : Session W) → other.program ≡ one.program → other.input ≡ one.input → own_steps other ≡ own_steps one
own_same {W} one other program input =
    ap₂ (λ (p : Program W) (i : List ℕ). let s : Steps = Exec (told_code p.dependents.code.items) i in s) program input

-- and its code is that of its program, as it was
pub same_code : {W : Type 0} (one other : Session W) → other.program ≡ one.program → HasProgramCode one → HasProgramCode other
same_code {W} one other program code =
    subst (λ (p : Program W). HasCode p) (sym program) code

-- fewer are left after one that is made
pub fewer_left : (own : Steps) (now next : PlainSession) → now.made < now.asked → HasTried (tried own now) now next None
    → next.asked - next.made < now.asked - now.made
fewer_left own now next less tries =
    let stepped = tried_steps own now tries.0 in
    let made : next.made ≡ now.made + 1 = ap (λ (s : PlainSession). s.made) tries.1 ∙ stepped.made in
    let asked : next.asked ≡ now.asked = ap (λ (s : PlainSession). s.asked) tries.1 ∙ stepped.asked in
    omega (arith, less, made, asked)

-- where they begin
pub begins : (steps : Steps) (s : PlainSession) (counts : PlainCounts) → IsRunning s → AreDefined steps (steps_left s) s
    → SoFar steps s s counts counts
unfolding after_steps
begins steps s counts running defined = record {
  number = 0;
  are_made = tt;
  after = refl;
  counted_made = omega arith;
  asked = refl;
  within = running.within;
  stands = running.stands;
  fetched = 0;
  counted = nothing_fetched counts;
  same = nothing_more (all_steps steps (steps_left s) s);
  defined = defined;
}

-- at most what one step fetches is fetched in those that are left
after_fetches : (made : Bool) (fetches : ℕ) (after : PlainSession) (others : TickOutcome)
    → fetches ≤ (if made then with_more fetches others else ticked Tick.Over after fetches).fetches
after_fetches true fetches after others = omega arith
after_fetches false fetches after others = omega arith

step_among : (steps : Steps) (left : ℕ) (s : PlainSession) → (tried steps s).fetches ≤ (all_steps steps (suc left) s).fetches
unfolding all_steps
step_among steps left s =
    after_fetches (tried steps s).made (tried steps s).fetches (tried steps s).after (all_steps steps left (tried steps s).after)

module _ (steps own : Steps) (is : own ≡ steps) (first now : PlainSession) (counts_first counts_now : PlainCounts)
    (so : SoFar steps first now counts_first counts_now) where
  -- where one may be made, it is defined
  pub next_defined : now.made < now.asked → IsSome (next_answer own now)
  next_defined less =
      subst (λ (s : Steps). IsSome (next_answer s now)) (sym is)
      (subst (λ (n : ℕ). AreDefined steps n now) (left_more now less) so.defined).0

  -- what comes of all, where one may be made
  same_left : now.made < now.asked
      → all_steps steps (steps_left first) first ≡ with_more so.fetched (all_steps steps (suc (now.asked - (now.made + 1))) now)
  same_left less = so.same ∙ ap (λ (n : ℕ). with_more so.fetched (all_steps steps n now)) (left_more now less)

  -- one more is made
  made_after : now.made < now.asked → (counts_next : PlainCounts) → (tried steps now).made ≡ true
      → FetchesBy (tried steps now).fetches counts_now counts_next → SoFar steps first (tried steps now).after counts_first counts_next
  made_after less counts_next made counted =
      let after = (tried steps now).after in
      let stepped = tried_steps steps now made in
      let more = stepped.made in
      let asked = stepped.asked in
      let so_made = so.counted_made in
      let left : now.asked - (now.made + 1) ≡ steps_left after = omega (arith, more, asked) in
      record {
        number = suc so.number;
        are_made = made_more steps so.number first now so.after so.are_made made;
        after = after_more steps so.number first now so.after;
        counted_made = omega (arith, more, so_made);
        asked = asked ∙ so.asked;
        within = omega (arith, more, asked, less);
        stands = stepped.stands;
        fetched = so.fetched + (tried steps now).fetches;
        counted = both_fetched so.fetched (tried steps now).fetches counts_first counts_now counts_next so.counted counted;
        same =
            goes_on steps (now.asked - (now.made + 1)) so.fetched (all_steps steps (steps_left first) first) now made (same_left less)
            ∙ ap (λ (n : ℕ). with_more (so.fetched + (tried steps now).fetches) (all_steps steps n after)) left;
        defined =
            subst (λ (n : ℕ). AreDefined steps n after) left
            (defined_more steps (now.asked - (now.made + 1)) now (subst (λ (n : ℕ). AreDefined steps n now) (left_more now less) so.defined) made);
      }

  module _ (less : now.made < now.asked) (next : PlainSession) (counts_next : PlainCounts) where
    pub steps_on : HasTried (tried own now) now next None → FetchesBy (tried own now).fetches counts_now counts_next
        → SoFar steps first next counts_first counts_next
    steps_on tries counted =
        let tries_so = subst (λ (s : Steps). HasTried (tried s now) now next None) is tries in
        subst (λ (s : PlainSession). SoFar steps first s counts_first counts_next) (sym tries_so.1)
        (made_after less counts_next tries_so.0 (subst (λ (s : Steps). FetchesBy (tried s now).fetches counts_now counts_next) is counted))

    -- memory runs out in one
    pub wants : first.trace ≡ false → next ≡ now → CallsNext own now → WantsInTick steps first next
    wants unshown same calls =
        let so_made = so.counted_made in
        let asked = so.asked in
        record {
          number = so.number;
          within = omega (arith, less, so_made, asked);
          shown = λ shown. absurd (false≢true (sym unshown ∙ shown));
          made = so.are_made;
          after = same ∙ so.after;
          calls = subst (CallsNext steps) (sym same) (subst (λ (s : Steps). CallsNext s now) is calls);
        }

    pub wants_fetched : FetchesAtMost (tried own now).fetches counts_now counts_next
        → FetchesAtMost (all_steps steps (steps_left first) first).fetches counts_first counts_next
    wants_fetched counted =
        let left = now.asked - (now.made + 1) in
        let among = step_among steps left now in
        let few : so.fetched + (tried steps now).fetches ≤ so.fetched + (all_steps steps (suc left) now).fetches = omega (arith, among) in
        subst (λ (o : TickOutcome). FetchesAtMost o.fetches counts_first counts_next) (sym (same_left less))
        (fewer_fetched (so.fetched + (tried steps now).fetches) (so.fetched + (all_steps steps (suc left) now).fetches) counts_first counts_next few
        (then_fetched so.fetched (tried steps now).fetches counts_first counts_now counts_next so.counted
        (subst (λ (s : Steps). FetchesAtMost (tried s now).fetches counts_now counts_next) is counted)))

    -- one isn't made
    module _ (reason : RunReason) (tries : HasTried (tried own now) now next (Some reason)) where
      ends_so : all_steps steps (steps_left first) first
          ≡ with_more so.fetched (ticked Tick.Over (tried steps now).after (tried steps now).fetches)
      ends_so =
          let tries_so = subst (λ (s : Steps). HasTried (tried s now) now next (Some reason)) is tries in
          ends steps (now.asked - (now.made + 1)) so.fetched (all_steps steps (steps_left first) first) now tries_so.0 (same_left less)

      pub rests_after : (last : PlainSession) (told : Tick) → last ≡ settled (rested_in next reason next.run) → told ≡ Tick.Over
          → (last ≡ (all_steps steps (steps_left first) first).after) × (told ≡ (all_steps steps (steps_left first) first).tick)
      rests_after last told rested over =
          let tries_so = subst (λ (s : Steps). HasTried (tried s now) now next (Some reason)) is tries in (
            rested ∙ ap (λ (s : PlainSession). settled (rested_in s reason s.run)) tries_so.1
                ∙ ap (λ (s : PlainSession). settled s) tries_so.2
                ∙ sym (ap (λ (o : TickOutcome). o.after) ends_so),
            over ∙ sym (ap (λ (o : TickOutcome). o.tick) ends_so),
          )

      pub rests_fetched : FetchesBy (tried own now).fetches counts_now counts_next
          → FetchesBy (all_steps steps (steps_left first) first).fetches counts_first counts_next
      rests_fetched counted =
          subst (λ (o : TickOutcome). FetchesBy o.fetches counts_first counts_next) (sym ends_so)
          (both_fetched so.fetched (tried steps now).fetches counts_first counts_now counts_next so.counted
          (subst (λ (s : Steps). FetchesBy (tried s now).fetches counts_now counts_next) is counted))

  -- all are made
  module _ (all : now.asked ≤ now.made) where
    pauses_so : all_steps steps (steps_left first) first ≡ with_more so.fetched (ticked Tick.Over (with_pause now) 0)
    pauses_so =
        let none : steps_left now ≡ 0 = omega (arith, all) in
        pauses steps so.fetched (all_steps steps (steps_left first) first) now
        (so.same ∙ ap (λ (n : ℕ). with_more so.fetched (all_steps steps n now)) none)

    pub pauses_after : (last : PlainSession) (told : Tick) → last ≡ settled (rested_in now RunReason.Paused now.run) → told ≡ Tick.Over
        → (last ≡ (all_steps steps (steps_left first) first).after) × (told ≡ (all_steps steps (steps_left first) first).tick)
    pauses_after last told rested over =
        (rested ∙ sym (ap (λ (o : TickOutcome). o.after) pauses_so), over ∙ sym (ap (λ (o : TickOutcome). o.tick) pauses_so))

    pub pauses_fetched : FetchesBy (all_steps steps (steps_left first) first).fetches counts_first counts_now
    pauses_fetched =
        let same : so.fetched + 0 ≡ so.fetched = omega arith in
        subst (λ (o : TickOutcome). FetchesBy o.fetches counts_first counts_now) (sym pauses_so)
        (subst (λ (n : ℕ). FetchesBy n counts_first counts_now) (sym same) so.counted)
