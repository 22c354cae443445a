use Rattle.std.specs.Prelude.{◌≤◌, drop, map}
use Rattle.plcs_grammar.specs.Template.{plain_segment, row_of}
use Rattle.unparse_layout.proofs.PutCells.{StretchesLeft}
use Rattle.unparse_layout.proofs.lay.put_first.Given as goal

abbrev pub invariant-loop-segment : goal.invariant-loop-segment
invariant-loop-segment g l = record {
  left :
      StretchesLeft (g.M.Marked.marks l.marks) l.node.label.slot l.node.label.parts l.fn.out (row_of l.node.label.kind).line l.out
      l.part (map plain_segment (drop l.segment-index l.segment-items));
  few : l.part ≤ l.segment-index;
}
