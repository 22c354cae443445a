use Rattle.std.proofs.Common.{◌≡◌}
use Rattle.synth_top.specs.Private.Pressing.{moment_of}
use Rattle.synth_top.proofs.EditorRuns.{SoFar}
use Rattle.synth_top.proofs.editor.run.Given as goal

-- as many bytes were read, one a read, as turns were made, and all their keys were shown
abbrev pub invariant-loop : goal.invariant-loop
invariant-loop g l = record {
  so_far : SoFar l.counter (record { session = g.E.Editing.session l.fn.editing; files = (g.F.Files.told l.fn.files).stored })
      (record {
        streams = record {
          left = g.S.Source.left l.fn.keys;
          reads = g.S.Source.reads l.fn.keys;
          taken = g.K.Sink.taken l.fn.screen;
          wants = g.K.Sink.wants l.fn.screen;
        };
        files = g.F.Files.told l.fn.files;
        counts = g.W.Work.counts l.fn.work;
      })
      (g.S.Source.left l.keys) (g.S.Source.reads l.keys) l.reader
      (moment_of (g.E.Editing.session l.editing) (g.E.Editing.shown l.editing) (g.K.Sink.taken l.screen) (g.K.Sink.wants l.screen) (g.F.Files.told l.files) (g.W.Work.counts l.work));
  ready : g.E.Editing.is_ready l.editing;
  unfailed_reads : g.S.Source.faults l.keys ≡ g.S.Source.faults l.fn.keys;
  unfailed_writes : g.K.Sink.faults l.screen ≡ g.K.Sink.faults l.fn.screen;
  led : g.S.Source.leads_to l.fn.keys l.keys;
}
