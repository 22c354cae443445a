use Rattle.std.specs.Prelude.{◌≤◌, ◌+◌, map, drop}
use Rattle.std.proofs.Common.{arith}
use Rattle.plcs_grammar.specs.Template.{plain_segment, row_of}
use Rattle.unparse_layout.proofs.PutCells.{next_part_le, segment_next, stretches_next}
use Rattle.unparse_layout.proofs.lay.put_first.Goals as goal

pub loop-segment-preserved : goal.loop-segment-preserved
loop-segment-preserved g c = record {
  left =
      stretches_next (g.M.Marked.marks c.args.marks.now) c.args.node.now.label.slot c.args.node.now.label.parts c.args.out.now
      (row_of c.args.node.now.label.kind).line c.loop-segment.out c.put_segment-part.new.out c.loop-segment.part c.put_segment-part.result _
      (map plain_segment (drop c.loop-segment.segment-index c.row.result.line.now))
      (map plain_segment (drop (c.loop-segment.segment-index + 1) c.row.result.line.now))
      (segment_next c.row.result.line.now c.loop-segment.segment-index _ c.loop-segment-test.true) c.put_segment-part.ensures.next
      c.put_segment-part.ensures.put c.loop-segment.invariant.left;
  few = let rose : c.put_segment-part.result ≤ c.loop-segment.part + 1 = next_part_le _ _ _ c.put_segment-part.ensures.next in
      omega (arith, rose, c.loop-segment.invariant.few);
}
