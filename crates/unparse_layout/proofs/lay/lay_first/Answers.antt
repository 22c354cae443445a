use Rattle.std.specs.Prelude.{false, ◌*◌, ◌++◌, replicate, take, flat_map}
use Rattle.std.proofs.Common.{◌∙◌}
use Rattle.plcs_grammar.specs.Template.{row_of}
use Rattle.unparse_layout.specs.declared.line.LineKind.{LineKind}
use Rattle.unparse_layout.specs.LaidLine.{longest_line, stretch_cells}
use Rattle.unparse_layout.specs.OwnedLine.{stretches_of}
use Rattle.unparse_layout.proofs.PutCells.{same_laid, whole_line}
use Rattle.unparse_layout.proofs.lay.lay_first.Goals as goal

pub returns : goal.returns
returns g c =
    let node = c.args.node.now in
    let text =
    flat_map (stretch_cells (g.M.Marked.marks c.args.marks.now) node.label.slot) (stretches_of 0 (row_of node.label.kind).line node.label.parts) in
    c.laid.ensures
    ∙ same_laid c.slot.result.0 node.label.slot LineKind.First c.put_first.new.out.cells.items
    (take longest_line (replicate (2 * c.args.level) 32 ++ text)) c.slot.ensures
    (whole_line record { cells = c.new.result; negative = false } c.put_blanks.new.out c.put_first.new.out (replicate (2 * c.args.level) 32) text
    c.new.ensures c.put_blanks.ensures c.put_first.ensures)
