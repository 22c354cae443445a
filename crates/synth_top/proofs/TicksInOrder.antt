-- The ticks of a key, one after the other: each that shows a step goes on to the others, and one that is over is the
-- last.
use Rattle.std.proofs.Common.{◌≡◌, ◌<◌, ◌≤◌, ◌⊎◌, inl, inr, ℕ, zero, suc, ◌+◌, Bool, true, false, if◌then◌else◌, List, [], ◌∷◌, ◌++◌, length, take, Option, Some, None, Result, Ok, Err, OnOk, refl, sym, ap, ◌∙◌, subst, append_assoc, append-nil, length-append, arith}
use Rattle.std.proofs.Math.Bool.{false≢true}
use Rattle.std.proofs.lemmas.List.{map-append, take_all}
use Rattle.std.proofs.Math.Seq.{take-append-add}
use Rattle.std.proofs.KnownBytes.{Appends-nil, Appends-trans}
use Rattle.std.specs.Io.KnownBytes.{Appends}
use Rattle.plcs_base.specs.Count.{Rose}
use Rattle.plcs_base.specs.PlainCounts.{PlainCounts}
use Rattle.plcs_machine.specs.Exec.{FetchedAnswer}
use Rattle.plcs_machine.specs.Fetched.{FetchesAtMost, FetchesBy}
use Rattle.plcs_store.specs.Step.{PlainStepAnswer}
use Rattle.screen_window.specs.Paint.{Paint}
use Rattle.screen_window.specs.PlainGrid.{PlainGrid}
use Rattle.screen_window.specs.Screen.{window_rows}
use Rattle.screen_window.specs.Writes.{Writes}
use Rattle.synth_outside.specs.Sink.{AppendsFront}
use Rattle.synth_outside.specs.declared.faults.SinkFault.{SinkFault}
use Rattle.synth_session.specs.CountedKey.{CountsScreen}
use Rattle.synth_session.specs.declared.tick.Tick.{Tick}
use Rattle.synth_session.specs.PlainRun.{PlainRun}
use Rattle.synth_session.specs.PlainSession.{PlainSession}
use Rattle.synth_session.specs.RunStop.{with_cursor_at_run}
use Rattle.synth_session.specs.SessionScreen.{grid, screen_fetches}
use Rattle.synth_session.specs.Tick.{AreMade, CallsNext, IsRunning, KeepsProgram, ShownTicksGoOn, Steps, TickOutcome, TicksKeepProgram, Tried, WantsInTick, after_steps, all_steps, one_step, program_steps, steps_left, tick, ticked, tried, tried_if, tried_in, tried_with, with_more}
use Rattle.synth_top.specs.declared.editor.Going.{Going}
use Rattle.synth_top.specs.declared.editor.Going.TheVariants.{On, Over}
use Rattle.synth_top.specs.declared.status.Status.{Status}
use Rattle.synth_top.specs.Counted.{CountsFor, all_fetched}
use Rattle.synth_top.specs.Private.Pressing.{Moment, last_shown}
use Rattle.synth_top.specs.Private.PaintedScreen.{going_after}
use Rattle.synth_top.specs.Private.TicksShown.{MadeTicks, TicksCut, TicksShown, TicksWanted, session_until, shots_until, ticks_from}
use Rattle.synth_top.specs.Turn.{Shot, Ticks, after_ticks, last_tick, no_bill, screens_of, shot_after, steps_of, tick_before, tick_by, ticks}
use Rattle.synth_top.specs.WholeRun.{painted_over}
use Rattle.synth_top.proofs.CountsInTurn.{counts_both, counts_nothing, counts_tick, counts_tick_wanted, fetched-append}
use Rattle.synth_top.proofs.TurnsInOrder.{last_shown-append, painted_over-append}

-- ---- a tick, by what it answers

-- one that is over is the last
pub over_is_last : (steps : Steps) (left fetched : ℕ) (s : PlainSession) → (tick steps s).tick ≡ Tick.Over
    → ticks steps left fetched s ≡ last_tick fetched (tick steps s)
over_is_last steps zero fetched s over = refl
over_is_last steps (suc left) fetched s over = ap (λ (t : Tick). tick_by t fetched (tick steps s) (ticks steps left 0)) over

-- after one that shows a step the others come
pub again_goes_on : (steps : Steps) (left fetched : ℕ) (s : PlainSession) → (tick steps s).tick ≡ Tick.Again
    → ticks steps (suc left) fetched s ≡ tick_before fetched (tick steps s) (ticks steps left 0 (tick steps s).after)
again_goes_on steps left fetched s again = ap (λ (t : Tick). tick_by t fetched (tick steps s) (ticks steps left 0)) again

-- what is fetched in the first of them is fetched in all
fetched_by : (t : Tick) (fetched : ℕ) (outcome : TickOutcome) (go : PlainSession → Ticks) → outcome.fetches ≤ all_fetched (tick_by t fetched outcome go).shots
fetched_by Tick.Over fetched outcome go = omega arith
fetched_by Tick.Again fetched outcome go = omega arith

first_fetched : (steps : Steps) (left fetched : ℕ) (s : PlainSession) → (tick steps s).fetches ≤ all_fetched (ticks steps left fetched s).shots
first_fetched steps zero fetched s = omega arith
first_fetched steps (suc left) fetched s = fetched_by (tick steps s).tick fetched (tick steps s) (ticks steps left 0)

-- ---- what a step leaves

after_kept : (a b c : PlainSession) → KeepsProgram a b → KeepsProgram b c → KeepsProgram a c
after_kept a b c h k = record { tree = k.tree ∙ h.tree; input = k.input ∙ h.input; trace = k.trace ∙ h.trace }

answered_keeps : (s : PlainSession) (run : PlainRun) (fetches : ℕ) (answer : PlainStepAnswer) → KeepsProgram s (tried_with s run fetches answer).after
answered_keeps s run fetches (PlainStepAnswer.stepped next) = record { tree = refl; input = refl; trace = refl }
answered_keeps s run fetches (PlainStepAnswer.stopped reason) = record { tree = refl; input = refl; trace = refl }
answered_keeps s run fetches PlainStepAnswer.ended = record { tree = refl; input = refl; trace = refl }

tried_if_keeps : (s : PlainSession) (run : PlainRun) (answer : Option FetchedAnswer) → KeepsProgram s (tried_if s run answer).after
tried_if_keeps s run None = record { tree = refl; input = refl; trace = refl }
tried_if_keeps s run (Some answer) = answered_keeps s run answer.fetches answer.result

tried_in_keeps : (steps : Steps) (s : PlainSession) (run : Option PlainRun) → KeepsProgram s (tried_in steps s run).after
tried_in_keeps steps s None = record { tree = refl; input = refl; trace = refl }
tried_in_keeps steps s (Some run) = tried_if_keeps s run (steps run.configuration)

tried_keeps : (steps : Steps) (s : PlainSession) → KeepsProgram s (tried steps s).after
unfolding tried
tried_keeps steps s = tried_in_keeps steps s s.run

steps_keep : (steps : Steps) (number : ℕ) (s : PlainSession) → KeepsProgram s (after_steps steps number s)
unfolding after_steps
steps_keep steps zero s = record { tree = refl; input = refl; trace = refl }
steps_keep steps (suc number) s =
    after_kept s (after_steps steps number s) (after_steps steps (suc number) s) (steps_keep steps number s) (tried_keeps steps (after_steps steps number s))

-- the steps of a session with the same program and input are the same
pub same_steps : (s t : PlainSession) → t.tree ≡ s.tree → t.input ≡ s.input → steps_of t ≡ steps_of s
same_steps s t tree input = ap (λ x. program_steps x t.input) tree ∙ ap (λ x. program_steps s.tree x) input

-- ---- steps of two sessions that have the same run and the same program

record SameStep (one other : Tried) : Type 0 where
  pub made : one.made ≡ other.made
  pub run : one.after.run ≡ other.after.run

answered_same : (s t : PlainSession) (run : PlainRun) (fetches : ℕ) (answer : PlainStepAnswer) → s.tree ≡ t.tree
    → SameStep (tried_with s run fetches answer) (tried_with t run fetches answer)
answered_same s t run fetches (PlainStepAnswer.stepped next) tree =
    record { made = refl; run = ap (λ x. (tried_with (record t { tree = x }) run fetches (PlainStepAnswer.stepped next)).after.run) tree }
answered_same s t run fetches (PlainStepAnswer.stopped reason) tree = record { made = refl; run = refl }
answered_same s t run fetches PlainStepAnswer.ended tree = record { made = refl; run = refl }

tried_if_same : (s t : PlainSession) (run : PlainRun) (answer : Option FetchedAnswer) → s.tree ≡ t.tree → s.run ≡ t.run
    → SameStep (tried_if s run answer) (tried_if t run answer)
tried_if_same s t run None tree same = record { made = refl; run = same }
tried_if_same s t run (Some answer) tree same = answered_same s t run answer.fetches answer.result tree

tried_in_same : (steps : Steps) (s t : PlainSession) (run : Option PlainRun) → s.tree ≡ t.tree → s.run ≡ t.run
    → SameStep (tried_in steps s run) (tried_in steps t run)
tried_in_same steps s t None tree same = record { made = refl; run = same }
tried_in_same steps s t (Some run) tree same = tried_if_same s t run (steps run.configuration) tree same

tried_same : (steps : Steps) (s t : PlainSession) → s.tree ≡ t.tree → s.run ≡ t.run → SameStep (tried steps s) (tried steps t)
unfolding tried
tried_same steps s t tree same =
    subst (λ (run : Option PlainRun). SameStep (tried_in steps s s.run) (tried_in steps t run)) same (tried_in_same steps s t s.run tree same)

-- ---- a tick that shows a step

-- each step is shown, one was made, and the run is as after that
record ShowsStep (steps : Steps) (s : PlainSession) : Type 0 where
  pub trace : s.trace ≡ true
  pub made : (tried steps s).made ≡ true
  pub run : (tick steps s).after.run ≡ (tried steps s).after.run

-- one that shows none is over
over_after : (made : Bool) (after : PlainSession) (fetches : ℕ) (go : PlainSession → TickOutcome) → ((x : PlainSession) → (go x).tick ≡ Tick.Over)
    → (if made then with_more fetches (go after) else ticked Tick.Over after fetches).tick ≡ Tick.Over
over_after true after fetches go h = h after
over_after false after fetches go h = refl

all_over : (steps : Steps) (left : ℕ) (s : PlainSession) → (all_steps steps left s).tick ≡ Tick.Over
unfolding all_steps
all_over steps zero s = refl
all_over steps (suc left) s =
    over_after (tried steps s).made (tried steps s).after (tried steps s).fetches (all_steps steps left) (all_over steps left)

-- where each step is shown
record ShowsTried (step : Tried) (outcome : TickOutcome) : Type 0 where
  pub made : step.made ≡ true
  pub run : outcome.after.run ≡ step.after.run

shown_tried : (made : Bool) (after : PlainSession) (fetches : ℕ)
    → (if made then ticked Tick.Again (record after { message = [] }) fetches else ticked Tick.Over after fetches).tick ≡ Tick.Again
    → ShowsTried (record { after = after; made = made; fetches = fetches })
    (if made then ticked Tick.Again (record after { message = [] }) fetches else ticked Tick.Over after fetches)
unfolding with_cursor_at_run
shown_tried true after fetches again = record { made = refl; run = refl }
shown_tried false after fetches again = absurd (cc)

one_shown : (steps : Steps) (left : ℕ) (s : PlainSession) → (one_step steps left s).tick ≡ Tick.Again → ShowsTried (tried steps s) (one_step steps left s)
one_shown steps zero s again = absurd (cc)
one_shown steps (suc left) s again = shown_tried (tried steps s).made (tried steps s).after (tried steps s).fetches again

shows_by : (trace : Bool) (step : Tried) (one other : TickOutcome) → (one.tick ≡ Tick.Again → ShowsTried step one) → other.tick ≡ Tick.Over
    → (if trace then one else other).tick ≡ Tick.Again → (trace ≡ true) × ShowsTried step (if trace then one else other)
shows_by true step one other h over again = (refl, h again)
shows_by false step one other h over again = absurd (cc)

shows_step : (steps : Steps) (s : PlainSession) → (tick steps s).tick ≡ Tick.Again → ShowsStep steps s
unfolding tick
shows_step steps s again =
    let shows = shows_by s.trace (tried steps s) (one_step steps (steps_left s) s) (all_steps steps (steps_left s) s)
    (one_shown steps (steps_left s) s) (all_over steps (steps_left s) s) again in
    record { trace = shows.0; made = shows.1.made; run = shows.1.run }

-- ---- ticks that were made

-- so many ticks were made from a session on, each of which shows a step, with these shots; the others are those of the
-- session after them
pub record TicksMade (first now : PlainSession) (done : ℕ) (made : List Shot) : Type 0 where
  pub others : (ticks_from first).shots ≡ made ++ (ticks_from now).shots
  pub at_end : (ticks_from first).after ≡ (ticks_from now).after
  pub many : length made ≡ done
  pub are_made : AreMade (steps_of first) done first
  pub after : now ≡ after_ticks (steps_of first) done first
  pub run : now.run ≡ (after_steps (steps_of first) done first).run
  pub program : KeepsProgram first now
  pub traced : ((now ≡ first) × (made ≡ [])) ⊎ ((first.trace ≡ true) × (0 < done))
  pub left : done + steps_left now ≡ steps_left first

none_made : (s : PlainSession) → TicksMade s s 0 []
unfolding after_steps
none_made s = record {
  others = refl;
  at_end = refl;
  many = refl;
  are_made = tt;
  after = refl;
  run = refl;
  program = record { tree = refl; input = refl; trace = refl };
  traced = inl (refl, refl);
  left = omega arith;
}

-- the shot of a tick
abbrev shot_of_tick : TickOutcome → Shot
shot_of_tick outcome = shot_after (0 + outcome.fetches) outcome.after

module _ (first now : PlainSession) (done : ℕ) (made : List Shot) (so : TicksMade first now done made) where
  -- the tick that comes next
  abbrev next : TickOutcome
  next = tick (steps_of now) now

  abbrev more : List Shot
  more = made ++ shot_of_tick next ∷ []

  steps_stay : steps_of now ≡ steps_of first
  steps_stay = same_steps first now so.program.tree so.program.input

  -- where it shows a step, the others come after it
  again_others : ticks_from now ≡ tick_before 0 next (ticks_from next.after) → (ticks_from first).shots ≡ more ++ (ticks_from next.after).shots
  again_others is =
      so.others ∙ ap (λ (t : Ticks). made ++ t.shots) is ∙ sym (append_assoc made (shot_of_tick next ∷ []) (ticks_from next.after).shots)

  again_is : TicksKeepProgram → next.tick ≡ Tick.Again → steps_left now ≡ steps_left next.after + 1 → ticks_from now ≡ tick_before 0 next (ticks_from next.after)
  again_is keep again fewer =
      let kept = keep (steps_of now) now in
      let one_less : steps_left now ≡ suc (steps_left next.after) = omega (arith, fewer) in
      ap (λ (n : ℕ). ticks (steps_of now) n 0 now) one_less
      ∙ again_goes_on (steps_of now) (steps_left next.after) 0 now again
      ∙ ap (λ (steps : Steps). tick_before 0 next (ticks steps (steps_left next.after) 0 next.after))
      (sym (same_steps now next.after kept.tree kept.input))

  -- the step that it shows is made, and the run is as after it
  step_made : next.tick ≡ Tick.Again
      → ((tried (steps_of first) (after_steps (steps_of first) done first)).made ≡ true)
      × (next.after.run ≡ (tried (steps_of first) (after_steps (steps_of first) done first)).after.run)
  step_made again =
      let shows = shows_step (steps_of now) now again in
      let same = tried_same (steps_of first) now (after_steps (steps_of first) done first)
      (so.program.tree ∙ sym (steps_keep (steps_of first) done first).tree) so.run in (
        sym same.made ∙ ap (λ (steps : Steps). (tried steps now).made) (sym steps_stay) ∙ shows.made,
        shows.run ∙ ap (λ (steps : Steps). (tried steps now).after.run) steps_stay ∙ same.run,
      )

  pub one_more : TicksKeepProgram → ShownTicksGoOn → IsRunning now → next.tick ≡ Tick.Again → TicksMade first next.after (suc done) more
  unfolding after_steps
  one_more keep go_on running again =
      let goes = go_on (steps_of now) now running again in
      let is = again_is keep again goes.fewer in
      let step = step_made again in
      record {
        others = again_others is;
        at_end = so.at_end ∙ ap (λ (t : Ticks). t.after) is;
        many = omega (arith, so.many, length-append made (shot_of_tick next ∷ []));
        are_made = (so.are_made, step.0);
        after = ap (λ (steps : Steps). (tick steps now).after) steps_stay ∙ ap (λ (s : PlainSession). (tick (steps_of first) s).after) so.after;
        run = step.1;
        program = after_kept first now next.after so.program (keep (steps_of now) now);
        traced = inr (sym so.program.trace ∙ (shows_step (steps_of now) now again).trace, omega arith);
        left = omega (arith, so.left, goes.fewer);
      }

  -- where it is over, it is the last
  last_is : next.tick ≡ Tick.Over → ticks_from now ≡ last_tick 0 next
  last_is over = over_is_last (steps_of now) (steps_left now) 0 now over

  pub over_shots : next.tick ≡ Tick.Over → (ticks_from first).shots ≡ more
  over_shots over = so.others ∙ ap (λ (t : Ticks). made ++ t.shots) (last_is over)

  pub over_after_is : next.tick ≡ Tick.Over → (ticks_from first).after ≡ next.after
  over_after_is over = so.at_end ∙ ap (λ (t : Ticks). t.after) (last_is over)

-- ---- where ticks are left

take_front : (xs ys : List Shot) → take (length xs) (xs ++ ys) ≡ xs
take_front [] ys = refl
take_front (x ∷ xs) ys = ap (λ (l : List Shot). x ∷ l) (take_front xs ys)

-- where each step is shown, the shots until so many steps are those of the ticks made
module _ (first now : PlainSession) (done : ℕ) (made : List Shot) (so : TicksMade first now done made) where
  made_until : first.trace ≡ true → shots_until first (Some done) ≡ made
  made_until trace =
      ap (λ (b : Bool). if b then take done (ticks_from first).shots else []) trace
      ∙ ap (λ (l : List Shot). take done l) so.others
      ∙ ap (λ (n : ℕ). take n (made ++ (ticks_from now).shots)) (sym so.many)
      ∙ take_front made (ticks_from now).shots

  left_at : first.trace ≡ true → now ≡ session_until first (Some done)
  left_at trace =
      so.after
      ∙ sym (ap (λ (b : Bool). if b then after_ticks (steps_of first) done first else after_steps (steps_of first) done first) trace)

-- ---- ticks of which the screens were painted

-- so many ticks were made between two moments, each of which shows a step, and all their screens were written
pub record TicksSoFar (first now : Moment) : Type 0 where
  pub done : ℕ
  pub made : List Shot
  pub are_made : TicksMade first.session now.session done made
  pub files : now.files ≡ first.files
  pub shown : now.shown ≡ last_shown first.shown (screens_of made)
  pub wrote : Appends first.taken now.taken (painted_over first.shown (screens_of made))
  pub unwanted : now.wanted ≡ first.wanted
  pub counts : CountsFor no_bill made None first.counts now.counts

pub none_so_far : (m : Moment) → TicksSoFar m m
none_so_far m = record {
  done = 0;
  made = [];
  are_made = none_made m.session;
  files = refl;
  shown = refl;
  wrote = Appends-nil m.taken;
  unwanted = refl;
  counts = counts_nothing m.counts;
}

-- a tick came after them, and its screen was drawn
pub record TickDrawn (now after : Moment) : Type 0 where
  pub session : after.session ≡ (tick (steps_of now.session) now.session).after
  pub files : after.files ≡ now.files
  pub counts : CountsFor no_bill (shot_of_tick (tick (steps_of now.session) now.session) ∷ []) None now.counts after.counts

-- by the steps with which it was made, where it is as by the program
pub tick_drawn : (steps : Steps) (now after : Moment) (ticked : PlainSession) (between : PlainCounts)
    → tick steps now.session ≡ tick (steps_of now.session) now.session → ticked ≡ (tick steps now.session).after → after.session ≡ ticked
    → after.files ≡ now.files → FetchesBy (tick steps now.session).fetches now.counts between
    → CountsScreen (window_rows ticked.size.rows) (screen_fetches ticked) between after.counts → TickDrawn now after
tick_drawn steps now after ticked between same is_ticked session files counted drawn =
    let outcome = tick (steps_of now.session) now.session in
    let is_after : ticked ≡ outcome.after = is_ticked ∙ ap (λ (o : TickOutcome). o.after) same in
    let fetches = ap (λ (o : TickOutcome). o.fetches) same in
    record {
      session = session ∙ is_after;
      files = files;
      counts = subst (λ (s : PlainSession). CountsFor no_bill (shot_after (0 + outcome.fetches) s ∷ []) None now.counts after.counts) is_after
          (counts_tick (tick steps now.session).fetches (0 + outcome.fetches) ticked now.counts between after.counts (omega (arith, fetches)) counted drawn);
    }

-- where a run goes on after a screen that was painted, it was written
pub record WasPainted (shown now : PlainGrid) (bytes : List ℕ) (taken_before taken_now : Option (List ℕ))
    (faults_before faults_now wants_before wants_now : ℕ) : Type 0 where
  pub wrote : Appends taken_before taken_now bytes
  pub is_shown : now ≡ shown
  pub unfailed : faults_now ≡ faults_before
  pub unwanted : wants_now ≡ wants_before

pub was_painted : (painted : Result Unit SinkFault) (shown now : PlainGrid) (bytes : List ℕ) (taken_before taken_now : Option (List ℕ))
    (faults_before faults_now wants_before wants_now : ℕ) → On ≡ going_after painted
    → Writes bytes painted taken_before taken_now faults_before faults_now wants_before wants_now → OnOk painted (now ≡ shown)
    → WasPainted shown now bytes taken_before taken_now faults_before faults_now wants_before wants_now
was_painted (Ok nothing) shown now bytes taken_before taken_now faults_before faults_now wants_before wants_now going wrote is_shown = record {
  wrote = wrote.all;
  is_shown = is_shown;
  unfailed = wrote.cause.same (λ e. absurd (cc));
  unwanted = wrote.want.same (λ e. absurd (cc));
}
was_painted (Err SinkFault.Failed) shown now bytes taken_before taken_now faults_before faults_now wants_before wants_now going wrote is_shown = absurd (cc)
was_painted (Err SinkFault.OutOfMemory) shown now bytes taken_before taken_now faults_before faults_now wants_before wants_now going wrote is_shown = absurd (cc)

module _ (first now after : Moment) (so : TicksSoFar first now) (drawn : TickDrawn now after) where
  abbrev outcome : TickOutcome
  outcome = tick (steps_of now.session) now.session

  abbrev all_made : List Shot
  all_made = so.made ++ shot_of_tick outcome ∷ []

  abbrev bytes_before : List ℕ
  bytes_before = painted_over first.shown (screens_of so.made)

  abbrev bytes_of_tick : List ℕ
  bytes_of_tick = Paint now.shown (grid outcome.after)

  screens_are : screens_of all_made ≡ screens_of so.made ++ grid outcome.after ∷ []
  screens_are = map-append (λ (shot : Shot). shot.screen) so.made (shot_of_tick outcome ∷ [])

  bytes_are : painted_over first.shown (screens_of all_made) ≡ bytes_before ++ bytes_of_tick
  bytes_are =
      ap (painted_over first.shown) screens_are
      ∙ painted_over-append first.shown (screens_of so.made) (grid outcome.after ∷ [])
      ∙ ap (λ (g : PlainGrid). bytes_before ++ (Paint g (grid outcome.after) ++ [])) (sym so.shown)
      ∙ ap (λ (l : List ℕ). bytes_before ++ l) (append-nil bytes_of_tick)

  last_is_shown : last_shown first.shown (screens_of all_made) ≡ grid outcome.after
  last_is_shown = ap (last_shown first.shown) screens_are ∙ last_shown-append first.shown (screens_of so.made) (grid outcome.after ∷ [])

  counts_are : CountsFor no_bill all_made None first.counts after.counts
  counts_are =
      counts_both no_bill no_bill no_bill so.made (shot_of_tick outcome ∷ []) None first.counts now.counts after.counts (omega arith) (omega arith)
      so.counts drawn.counts

  wrote_all : Appends now.taken after.taken bytes_of_tick → Appends first.taken after.taken (painted_over first.shown (screens_of all_made))
  wrote_all wrote =
      subst (Appends first.taken after.taken) (sym bytes_are) (Appends-trans first.taken now.taken after.taken bytes_before bytes_of_tick so.wrote wrote)

  wrote_front : (count : ℕ) → Appends now.taken after.taken (take count bytes_of_tick)
      → Appends first.taken after.taken (take (length bytes_before + count) (painted_over first.shown (screens_of all_made)))
  wrote_front count wrote =
      subst (Appends first.taken after.taken)
      (sym (ap (take (length bytes_before + count)) bytes_are ∙ take-append-add bytes_before bytes_of_tick count))
      (Appends-trans first.taken now.taken after.taken bytes_before (take count bytes_of_tick) so.wrote wrote)

  -- it showed a step, and its screen was written
  shown_more : TicksKeepProgram → ShownTicksGoOn → IsRunning now.session → outcome.tick ≡ Tick.Again → Appends now.taken after.taken bytes_of_tick
      → after.shown ≡ grid outcome.after → after.wanted ≡ now.wanted → TicksSoFar first after
  shown_more keep go_on running again wrote shown unwanted = record {
    done = suc so.done;
    made = all_made;
    are_made = subst (λ (s : PlainSession). TicksMade first.session s (suc so.done) all_made) (sym drawn.session)
        (one_more first.session now.session so.done so.made so.are_made keep go_on running again);
    files = drawn.files ∙ so.files;
    shown = shown ∙ sym last_is_shown;
    wrote = wrote_all wrote;
    unwanted = unwanted ∙ so.unwanted;
    counts = counts_are;
  }

  -- it was over, and its screen was written
  shown_last : outcome.tick ≡ Tick.Over → Appends now.taken after.taken bytes_of_tick → after.shown ≡ grid outcome.after → after.wanted ≡ now.wanted
      → TicksShown first after
  shown_last over wrote shown unwanted =
      let all : (ticks_from first.session).shots ≡ all_made = over_shots first.session now.session so.done so.made so.are_made over in
      record {
        session = drawn.session ∙ sym (over_after_is first.session now.session so.done so.made so.are_made over);
        files = drawn.files ∙ so.files;
        shown = shown ∙ sym (ap (λ (l : List Shot). last_shown first.shown (screens_of l)) all ∙ last_is_shown);
        wrote = subst (λ (l : List Shot). Appends first.taken after.taken (painted_over first.shown (screens_of l))) (sym all) (wrote_all wrote);
        unwanted = unwanted ∙ so.unwanted;
        counts = subst (λ (l : List Shot). CountsFor no_bill l None first.counts after.counts) (sym all) counts_are;
      }

  -- it was over, and its screen was cut short
  cut_last : outcome.tick ≡ Tick.Over → (count : ℕ) → Appends now.taken after.taken (take count bytes_of_tick) → TicksCut first after
  cut_last over count wrote =
      let all : (ticks_from first.session).shots ≡ all_made = over_shots first.session now.session so.done so.made so.are_made over in
      record {
        left = None;
        shows = tt;
        count = length bytes_before + count;
        is_left = record {
          made = tt;
          session = drawn.session ∙ sym (over_after_is first.session now.session so.done so.made so.are_made over);
          files = drawn.files ∙ so.files;
          wrote = subst
              (λ (l : List Shot). Appends first.taken after.taken (take (length bytes_before + count) (painted_over first.shown (screens_of l))))
              (sym all) (wrote_front count wrote);
          counts = subst (λ (l : List Shot). CountsFor no_bill l None first.counts after.counts) (sym all) counts_are;
        };
      }

  -- it showed a step, and its screen was cut short
  cut_shown : TicksKeepProgram → ShownTicksGoOn → IsRunning now.session → outcome.tick ≡ Tick.Again → (count : ℕ)
      → Appends now.taken after.taken (take count bytes_of_tick) → TicksCut first after
  cut_shown keep go_on running again count wrote =
      let made = one_more first.session now.session so.done so.made so.are_made keep go_on running again in
      let trace : first.session.trace ≡ true = sym so.are_made.program.trace ∙ (shows_step (steps_of now.session) now.session again).trace in
      let until : shots_until first.session (Some (suc so.done)) ≡ all_made = made_until first.session outcome.after (suc so.done) all_made made trace in
      record {
        left = Some (suc so.done);
        shows = (trace, omega arith);
        count = length bytes_before + count;
        is_left = record {
          made = (omega (arith, made.left), made.are_made);
          session = drawn.session ∙ left_at first.session outcome.after (suc so.done) all_made made trace;
          files = drawn.files ∙ so.files;
          wrote = subst
              (λ (l : List Shot). Appends first.taken after.taken (take (length bytes_before + count) (painted_over first.shown (screens_of l))))
              (sym until) (wrote_front count wrote);
          counts = subst (λ (l : List Shot). CountsFor no_bill l None first.counts after.counts) (sym until) counts_are;
        };
      }

  -- its screen was cut short, whatever it answered
  tick_cut : TicksKeepProgram → ShownTicksGoOn → IsRunning now.session → AppendsFront now.taken after.taken bytes_of_tick → TicksCut first after
  tick_cut keep go_on running front = by_tick outcome.tick refl where
    by_tick : (t : Tick) → outcome.tick ≡ t → TicksCut first after
    by_tick Tick.Again again = cut_shown keep go_on running again front.0 front.1
    by_tick Tick.Over over = cut_last over front.0 front.1

  -- the bytes that were to be written for it, as they are shown
  same_bytes : (shown : PlainGrid) (ticked : PlainSession) → shown ≡ now.shown → ticked ≡ outcome.after → Paint shown (grid ticked) ≡ bytes_of_tick
  same_bytes shown ticked same is = ap (λ (g : PlainGrid). Paint g (grid ticked)) same ∙ ap (λ (s : PlainSession). Paint now.shown (grid s)) is

  -- its screen was written, and it was over
  pub last_painted : (painted : Result Unit SinkFault) (shown : PlainGrid) (ticked : PlainSession) (faults_before faults_now : ℕ)
      → On ≡ going_after painted → outcome.tick ≡ Tick.Over → shown ≡ now.shown → ticked ≡ outcome.after
      → Writes (Paint shown (grid ticked)) painted now.taken after.taken faults_before faults_now now.wanted after.wanted
      → OnOk painted (after.shown ≡ grid ticked) → TicksShown first after
  last_painted painted shown ticked faults_before faults_now going over same is_ticked wrote is_shown =
      let was = was_painted painted (grid ticked) after.shown (Paint shown (grid ticked)) now.taken after.taken faults_before faults_now now.wanted after.wanted
      going wrote is_shown in
      shown_last over (subst (Appends now.taken after.taken) (same_bytes shown ticked same is_ticked) was.wrote) (was.is_shown ∙ ap grid is_ticked) was.unwanted

  -- its screen was written, and it showed a step
  pub more_painted : (painted : Result Unit SinkFault) (shown : PlainGrid) (ticked : PlainSession) (faults_before faults_now : ℕ)
      → TicksKeepProgram → ShownTicksGoOn → IsRunning now.session
      → On ≡ going_after painted → outcome.tick ≡ Tick.Again → shown ≡ now.shown → ticked ≡ outcome.after
      → Writes (Paint shown (grid ticked)) painted now.taken after.taken faults_before faults_now now.wanted after.wanted
      → OnOk painted (after.shown ≡ grid ticked) → TicksSoFar first after
  more_painted painted shown ticked faults_before faults_now keep go_on running going again same is_ticked wrote is_shown =
      let was = was_painted painted (grid ticked) after.shown (Paint shown (grid ticked)) now.taken after.taken faults_before faults_now now.wanted after.wanted
      going wrote is_shown in
      shown_more keep go_on running again (subst (Appends now.taken after.taken) (same_bytes shown ticked same is_ticked) was.wrote)
      (was.is_shown ∙ ap grid is_ticked) was.unwanted

  -- a write of its screen gave no answer
  pub made_cut : (painted : Result Unit SinkFault) (status : Status) (shown : PlainGrid) (ticked : PlainSession) (faults_before faults_now : ℕ)
      → TicksKeepProgram → ShownTicksGoOn → IsRunning now.session → Over status ≡ going_after painted → shown ≡ now.shown → ticked ≡ outcome.after
      → Writes (Paint shown (grid ticked)) painted now.taken after.taken faults_before faults_now now.wanted after.wanted
      → MadeTicks (Over status) first after
  made_cut (Ok nothing) status shown ticked faults_before faults_now keep go_on running is same is_ticked wrote = absurd (cc)
  made_cut (Err SinkFault.Failed) status shown ticked faults_before faults_now keep go_on running is same is_ticked wrote =
      subst (λ (g : Going). MadeTicks g first after) (sym is)
      (tick_cut keep go_on running (subst (AppendsFront now.taken after.taken) (same_bytes shown ticked same is_ticked) wrote.front))
  made_cut (Err SinkFault.OutOfMemory) status shown ticked faults_before faults_now keep go_on running is same is_ticked wrote =
      subst (λ (g : Going). MadeTicks g first after) (sym is)
      (inl (
        tick_cut keep go_on running (subst (AppendsFront now.taken after.taken) (same_bytes shown ticked same is_ticked) wrote.front),
        subst (λ (n : ℕ). Rose n after.wanted) so.unwanted (wrote.want.rose refl),
      ))

-- ---- memory ran out in a tick after them

module _ (first now after : Moment) (so : TicksSoFar first now) (wants : WantsInTick (steps_of now.session) now.session after.session)
    (files : after.files ≡ now.files) (taken : after.taken ≡ now.taken) (wanted : after.wanted ≡ now.wanted)
    (counts : FetchesAtMost (tick (steps_of now.session) now.session).fetches now.counts after.counts) where
  -- the steps by which it was left have the same program and input
  calls_are : CallsNext (steps_of after.session) after.session
  calls_are =
      let kept = steps_keep (steps_of now.session) wants.number now.session in
      let tree : after.session.tree ≡ now.session.tree = ap (λ (s : PlainSession). s.tree) wants.after ∙ kept.tree in
      let input : after.session.input ≡ now.session.input = ap (λ (s : PlainSession). s.input) wants.after ∙ kept.input in
      subst (λ (steps : Steps). CallsNext steps after.session) (sym (same_steps now.session after.session tree input)) wants.calls

  -- as much as was fetched was due
  was_due : all_fetched so.made + (tick (steps_of now.session) now.session).fetches ≤ all_fetched (ticks_from first.session).shots
  was_due =
      let others = ap all_fetched so.are_made.others ∙ fetched-append so.made (ticks_from now.session).shots in
      let tick_fetched = first_fetched (steps_of now.session) (steps_left now.session) 0 now.session in
      omega (arith, others, tick_fetched)

  -- where so many steps were made in all, and the shots until then are those that were made
  wanted_at : (number : ℕ) → number < steps_left first.session → AreMade (steps_of first.session) number first.session
      → after.session ≡ session_until first.session (Some number) → shots_until first.session (Some number) ≡ so.made → TicksWanted first after
  wanted_at number within made session until = record {
    number = number;
    within = within;
    count = length (painted_over first.shown (screens_of so.made));
    is_left = record {
      made = (omega (arith, within), made);
      session = session;
      files = files ∙ so.files;
      wrote = subst
          (λ (l : List Shot). Appends first.taken after.taken (take (length (painted_over first.shown (screens_of so.made))) (painted_over first.shown (screens_of l))))
          (sym until)
          (subst (Appends first.taken after.taken)
          (sym (take_all (length (painted_over first.shown (screens_of so.made))) (painted_over first.shown (screens_of so.made)) (omega arith)))
          (subst (λ (t : Option (List ℕ)). Appends first.taken t (painted_over first.shown (screens_of so.made))) (sym taken) so.wrote));
      counts = subst (λ (l : List Shot). CountsFor no_bill l (Some (all_fetched (ticks_from first.session).shots)) first.counts after.counts) (sym until)
          (counts_tick_wanted (tick (steps_of now.session) now.session).fetches (all_fetched (ticks_from first.session).shots) so.made
          first.counts now.counts after.counts was_due so.counts counts);
    };
    all = omega (arith, ap (λ (l : List Shot). length (painted_over first.shown (screens_of l))) until);
    calls = calls_are;
    unwanted = wanted ∙ so.unwanted;
  }

  -- each step is shown, and none was made in the tick
  wanted_shown : first.session.trace ≡ true → TicksWanted first after
  unfolding after_steps
  wanted_shown trace =
      let none : wants.number ≡ 0 = wants.shown (so.are_made.program.trace ∙ trace) in
      let same : after.session ≡ now.session = wants.after ∙ ap (λ (n : ℕ). after_steps (steps_of now.session) n now.session) none in
      let within = wants.within in
      let left = so.are_made.left in
      wanted_at so.done (omega (arith, none, within, left)) so.are_made.are_made
      (same ∙ left_at first.session now.session so.done so.made so.are_made trace)
      (made_until first.session now.session so.done so.made so.are_made trace)

  -- no step is shown, and the tick is the first
  wanted_first : first.session.trace ≡ false → now.session ≡ first.session → so.made ≡ [] → TicksWanted first after
  wanted_first untraced same none =
      let first_wants : WantsInTick (steps_of first.session) first.session after.session =
      subst (λ (s : PlainSession). WantsInTick (steps_of s) s after.session) same wants in
      wanted_at first_wants.number first_wants.within first_wants.made
      (first_wants.after
      ∙ sym (ap (λ (b : Bool). if b then after_ticks (steps_of first.session) first_wants.number first.session else after_steps (steps_of first.session) first_wants.number first.session) untraced))
      (ap (λ (b : Bool). if b then take first_wants.number (ticks_from first.session).shots else []) untraced ∙ sym none)

  pub tick_wanted : TicksWanted first after
  tick_wanted = by_trace first.session.trace refl so.are_made.traced where
    by_trace : (trace : Bool) → first.session.trace ≡ trace
        → ((now.session ≡ first.session) × (so.made ≡ [])) ⊎ ((first.session.trace ≡ true) × (0 < so.done)) → TicksWanted first after
    by_trace true is either = wanted_shown is
    by_trace false is (inl none) = wanted_first is none.0 none.1
    by_trace false is (inr shown) = absurd (false≢true (sym is ∙ shown.0))
