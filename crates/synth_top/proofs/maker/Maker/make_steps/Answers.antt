-- Each turn of the loop makes a tick by the code that the session has, which is one by its program. So where the loop
-- is left, by a tick that wanted memory or by one that was over, the ticks so far and the last one are all; and one
-- that shows a step goes on, with one step fewer to be made.
use Rattle.std.proofs.Common.{◌+◌, ap, sym, subst, refl, ◌∙◌}
use Rattle.std.proofs.lemmas.Result.{err_from_is_err_and}
use Rattle.plcs_machine.specs.Fetched.{FetchesAtMost, FetchesBy}
use Rattle.template_tree.specs.Programs.PlainTree.{roomless_tree}
use Rattle.synth_session.specs.declared.program.Program.{Program}
use Rattle.synth_session.specs.PlainSession.{PlainSession}
use Rattle.synth_session.specs.SessionView.{EditsFit, HasCode, plain_session}
use Rattle.synth_session.specs.Tick.{IsRunning, TickOutcome, steps_left}
use Rattle.synth_top.specs.Turn.{steps_of}
use Rattle.synth_top.proofs.MadeKeys.{all_left, last_made, left_there, more_made, ticks_unmade}
use Rattle.synth_top.proofs.TicksInOrder.{same_steps}
use Rattle.synth_top.proofs.maker.Maker.make_steps.Goals as goal

-- no tick was made yet
pub loop-tick-init : goal.loop-tick-init
loop-tick-init g c = record {
  so_far = all_left _ _;
  ready = c.requires.ready;
  running = c.requires.running;
  fits = c.requires.fits;
  files = refl;
}

-- a tick wanted memory
pub returns-in_err-tick-clause-made : goal.returns-in_err-tick-clause-made
returns-in_err-tick-clause-made g c =
    let p = err_from_is_err_and c.from_residual.result c.from_residual.ensures.1 in
    ticks_unmade _ _ _ _ _ _ p.1
    (left_there _ _ _ _ c.loop-tick.invariant.so_far _
    (subst (λ (o : TickOutcome). FetchesAtMost o.fetches (g.W.Work.counts c.loop-tick.work)
    (g.W.Work.counts c.tick.new.work))
    c.steps_are_the_programs.ensures.same c.in_err-tick.ensures.counted))

-- it was over
pub returns-in-Over-clause-made : goal.returns-in-Over-clause-made
returns-in-Over-clause-made g c =
    let same = c.steps_are_the_programs.ensures.same in
    let does = c.in_ok-tick.ensures.does in
    last_made _ _ _ _ c.loop-tick.invariant.so_far _ _
    (sym (does.1 ∙ ap (λ (o : TickOutcome). o.tick) same) ∙ c.in-Over.is)
    (does.0 ∙ ap (λ (o : TickOutcome). o.after) same)
    (subst (λ (o : TickOutcome). FetchesBy o.fetches (g.W.Work.counts c.loop-tick.work)
    (g.W.Work.counts c.tick.new.work)) same
    c.in_ok-tick.ensures.counted)

-- it showed a step
pub loop-tick-preserved : goal.loop-tick-preserved
loop-tick-preserved g c =
    let invariant = c.loop-tick.invariant in
    let same = c.steps_are_the_programs.ensures.same in
    let does = c.in_ok-tick.ensures.does in
    let again = sym (does.1 ∙ ap (λ (o : TickOutcome). o.tick) same) ∙ c.in_default.is in
    let is_ticked = does.0 ∙ ap (λ (o : TickOutcome). o.after) same in
    let before = plain_session c.loop-tick.self.session in
    let kept = c.ticks_go_on.ensures.kept (steps_of before) before in
    let goes_on = c.ticks_go_on.ensures.shown _ _ invariant.running again in
    record {
      so_far = more_made _ _ _ _ invariant.so_far _ _ again is_ticked
          (same_steps before (plain_session c.tick.new.self) (ap (λ (s : PlainSession). s.tree) is_ticked ∙ kept.tree)
          (ap (λ (s : PlainSession). s.input) is_ticked ∙ kept.input))
          (goes_on.fewer ∙ ap (λ (s : PlainSession). steps_left s + 1) (sym is_ticked))
          (subst (λ (o : TickOutcome). FetchesBy o.fetches (g.W.Work.counts c.loop-tick.work)
          (g.W.Work.counts c.tick.new.work)) same
          c.in_ok-tick.ensures.counted);
      ready = record {
        session = c.tick.ensures.session;
        code = subst HasCode (sym c.tick.ensures.program) invariant.ready.code;
        run = c.tick.ensures.fits invariant.ready.code invariant.fits invariant.ready.run;
        edits =
            subst (λ edits. EditsFit edits (roomless_tree c.tick.new.self.program.tree)) (sym c.tick.ensures.edits)
            (subst (λ (p : Program _). EditsFit c.loop-tick.self.session.edits (roomless_tree p.tree)) (sym c.tick.ensures.program)
            invariant.ready.edits);
      };
      running = subst IsRunning (sym is_ticked) goes_on.running;
      fits = c.tick.ensures.stays_fit invariant.ready.code invariant.fits;
      files = invariant.files;
    }
