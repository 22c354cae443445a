-- Each turn of the loop makes a tick by the code that the session has, which is one by its program, and shows a screen.
-- So where the loop is left, by a screen that was cut short, by a tick that wanted memory or by one that was over, the
-- ticks so far and the last one are what the result says; and one that shows a step goes on, with one step less to be
-- made.
use Rattle.std.proofs.Common.{ap, sym, subst, refl, ◌∙◌, inr}
use Rattle.plcs_machine.specs.Fetched.{FetchesAtMost}
use Rattle.synth_session.specs.PlainScreens.{PlainScreens}
use Rattle.synth_session.specs.Tick.{IsRunning, RunFits, TickOutcome}
use Rattle.synth_top.proofs.TicksInOrder.{last_painted, made_cut, more_painted, none_so_far, tick_drawn, tick_wanted, was_painted}
use Rattle.synth_top.proofs.editor.Editor.make_steps.Goals as goal

-- no tick was made yet
pub loop-tick-init : goal.loop-tick-init
loop-tick-init g c = record {
  so_far = λ files. none_so_far _;
  ready = c.requires.ready;
  running = c.requires.running;
  fits = c.requires.fits;
  unfailed = refl;
}

-- a tick wanted memory
pub returns-in_default-clause-made : goal.returns-in_default-clause-made
returns-in_default-clause-made g c = λ files.
    inr
    (tick_wanted _ _ _ (c.loop-tick.invariant.so_far files) (c.steps_are_the_programs.ensures.wanted _ c.in_default.ensures.does) refl refl refl
    (subst (λ (o : TickOutcome). FetchesAtMost o.fetches (g.W.Work.counts c.loop-tick.work) (g.W.Work.counts c.tick.new.work))
    c.steps_are_the_programs.ensures.same c.in_default.ensures.counted))

-- its screen was cut short
pub returns-in-Over-clause-made : goal.returns-in-Over-clause-made
returns-in-Over-clause-made g c = λ files.
    let same = c.steps_are_the_programs.ensures.same in
    let does = c.in-Ok.ensures.does in
    made_cut _ _ _ (c.loop-tick.invariant.so_far files)
    (tick_drawn _ _ _ _ _ same does.0 c.show.ensures.session refl c.in-Ok.ensures.counted c.show.ensures.counts)
    c.show.result c.in-Over.status _ _ _ _ c.ticks_go_on.ensures.kept c.ticks_go_on.ensures.shown c.loop-tick.invariant.running c.in-Over.ensures
    (ap (λ (z : PlainScreens). z.shown) c.tick.ensures.screens) (does.0 ∙ ap (λ (o : TickOutcome). o.after) same) c.show.ensures.wrote

-- it was over, and its screen was written
pub returns-in-Over-tick-clause-made : goal.returns-in-Over-tick-clause-made
returns-in-Over-tick-clause-made g c = λ files.
    let same = c.steps_are_the_programs.ensures.same in
    let does = c.in-Ok.ensures.does in
    last_painted _ _ _ (c.loop-tick.invariant.so_far files)
    (tick_drawn _ _ _ _ _ same does.0 c.show.ensures.session refl c.in-Ok.ensures.counted c.show.ensures.counts)
    c.show.result _ _ _ _ c.in_default-going_after.ensures (sym (does.1 ∙ ap (λ (o : TickOutcome). o.tick) same) ∙ c.in-Over-tick.is)
    (ap (λ (z : PlainScreens). z.shown) c.tick.ensures.screens) (does.0 ∙ ap (λ (o : TickOutcome). o.after) same) c.show.ensures.wrote c.show.ensures.shown

-- it showed a step, and its screen was written
pub loop-tick-preserved : goal.loop-tick-preserved
loop-tick-preserved g c =
    let same = c.steps_are_the_programs.ensures.same in
    let does = c.in-Ok.ensures.does in
    let again = sym (does.1 ∙ ap (λ (o : TickOutcome). o.tick) same) ∙ c.in_default-tick.is in
    let is_ticked = does.0 ∙ ap (λ (o : TickOutcome). o.after) same in
    record {
      so_far = λ files.
          more_painted _ _ _ (c.loop-tick.invariant.so_far files)
          (tick_drawn _ _ _ _ _ same does.0 c.show.ensures.session refl c.in-Ok.ensures.counted c.show.ensures.counts)
          c.show.result _ _ _ _ c.ticks_go_on.ensures.kept c.ticks_go_on.ensures.shown c.loop-tick.invariant.running
          c.in_default-going_after.ensures again
          (ap (λ (z : PlainScreens). z.shown) c.tick.ensures.screens) is_ticked c.show.ensures.wrote c.show.ensures.shown;
      ready = c.show.ensures.ready;
      running = subst IsRunning (sym (c.show.ensures.session ∙ is_ticked)) (c.ticks_go_on.ensures.shown _ _ c.loop-tick.invariant.running again).running;
      fits = subst RunFits (sym c.show.ensures.session) (c.tick.ensures.stays_fit c.loop-tick.invariant.ready.code c.loop-tick.invariant.fits);
      unfailed = (was_painted c.show.result _ _ _ _ _ _ _ _ _ c.in_default-going_after.ensures c.show.ensures.wrote c.show.ensures.shown).unfailed
          ∙ c.loop-tick.invariant.unfailed;
    }
