use Rattle.std.proofs.Common.{◌≡◌}
use Rattle.synth_session.specs.SessionView.{plain_session}
use Rattle.synth_session.specs.Tick.{IsRunning, RunFits, steps_left}
use Rattle.synth_top.specs.Private.MakingKeys.{CanPress}
use Rattle.synth_top.proofs.MadeKeys.{TicksLeftOver}
use Rattle.synth_top.proofs.maker.Maker.make_steps.Given as goal

-- each tick makes one step of those that the key asks for
abbrev pub decreases-loop-tick : goal.decreases-loop-tick
decreases-loop-tick g l = steps_left (plain_session l.self.session)

-- each tick so far showed a step
abbrev pub invariant-loop-tick : goal.invariant-loop-tick
invariant-loop-tick g l = record {
  so_far : TicksLeftOver (plain_session l.fn.self.session) (plain_session l.self.session) (g.W.Work.counts l.fn.work)
      (g.W.Work.counts l.work);
  ready : CanPress l.self;
  running : IsRunning (plain_session l.self.session);
  fits : RunFits (plain_session l.self.session);
  files : l.self.files ≡ l.fn.self.files;
}
