use Rattle.std.specs.Prelude.{◌≡◌, ◌-◌}
use Rattle.synth_session.specs.Private.TickLoop.{SoFar}
use Rattle.synth_session.specs.SessionView.{HasFittingRun, HasProgramCode, IsSession, own_steps, plain_session}
use Rattle.synth_session.specs.Tick.{RunFits}
use Rattle.synth_session.proofs.session.Session.make_steps.Given as goal

abbrev pub decreases-loop-self : goal.decreases-loop-self
decreases-loop-self g l = l.self.asked - l.self.made

abbrev pub invariant-loop-self : goal.invariant-loop-self
invariant-loop-self g l = record {
  so_far : SoFar (own_steps l.fn.self) (plain_session l.fn.self) (plain_session l.self)
      (g.W.Work.counts l.fn.work) (g.W.Work.counts l.work);
  session : IsSession l.self;
  program : l.self.program ≡ l.fn.self.program;
  edits : l.self.edits ≡ l.fn.self.edits;
  screens : l.self.screens ≡ l.fn.self.screens;
  input : l.self.input ≡ l.fn.self.input;
  fits : HasProgramCode l.fn.self → RunFits (plain_session l.fn.self) → HasFittingRun l.fn.self → HasFittingRun l.self;
  stays_fit : HasProgramCode l.fn.self → RunFits (plain_session l.fn.self) → RunFits (plain_session l.self);
}
