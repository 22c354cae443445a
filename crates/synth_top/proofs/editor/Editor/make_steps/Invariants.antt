use Rattle.std.proofs.Common.{◌≡◌}
use Rattle.synth_outside.specs.Files.{PlainFiles}
use Rattle.synth_session.specs.SessionView.{plain_session, shown_grid}
use Rattle.synth_session.specs.Tick.{IsRunning, RunFits, steps_left}
use Rattle.synth_top.specs.Private.Pressing.{IsReady, moment_of}
use Rattle.synth_top.proofs.TicksInOrder.{TicksSoFar}
use Rattle.synth_top.proofs.editor.Editor.make_steps.Given as goal

-- each tick makes one step of those that the key asks for
abbrev pub decreases-loop-tick : goal.decreases-loop-tick
decreases-loop-tick g l = steps_left (plain_session l.self.session)

-- each tick so far showed a step, and all their screens were written
abbrev pub invariant-loop-tick : goal.invariant-loop-tick
invariant-loop-tick g l = record {
  so_far : (files : PlainFiles) →
      TicksSoFar (moment_of (plain_session l.fn.self.session) (shown_grid l.fn.self.session) (g.K.Sink.taken l.fn.screen) (g.K.Sink.wants l.fn.screen) files (g.W.Work.counts l.fn.work))
      (moment_of (plain_session l.self.session) (shown_grid l.self.session) (g.K.Sink.taken l.screen) (g.K.Sink.wants l.screen) files (g.W.Work.counts l.work));
  ready : IsReady l.self;
  running : IsRunning (plain_session l.self.session);
  fits : RunFits (plain_session l.self.session);
  unfailed : g.K.Sink.faults l.screen ≡ g.K.Sink.faults l.fn.screen;
}
