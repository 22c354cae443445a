use Rattle.std.proofs.Common.{◌≡◌, ◌≤◌}
use Rattle.terminal_keys.specs.Private.PassedSoFar.{PassedSoFar}
use Rattle.terminal_keys.proofs.passing.pass_keys.Given as goal

-- what passes of the bytes so far was passed
abbrev pub invariant-loop-made : goal.invariant-loop-made
invariant-loop-made g l = record {
  so_far : PassedSoFar
      (record { left = g.S.Source.left l.fn.keys; passed = g.K.Sink.taken l.fn.editor; rung = g.B.Sink.taken l.fn.bells })
      (record { left = g.S.Source.left l.keys; passed = g.K.Sink.taken l.editor; rung = g.B.Sink.taken l.bells })
      l.begun.bytes.items;
  unfailed : g.S.Source.faults l.keys ≡ g.S.Source.faults l.fn.keys;
  editor_later : g.K.Sink.faults l.fn.editor ≤ g.K.Sink.faults l.editor;
  bells_later : g.B.Sink.faults l.fn.bells ≤ g.B.Sink.faults l.bells;
  reads : l._made ≤ g.S.Source.reads l.keys;
}
