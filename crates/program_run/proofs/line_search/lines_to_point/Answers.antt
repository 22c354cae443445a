use Rattle.std.proofs.Common.{arith}
use Rattle.plcs_grammar.specs.Template.{row_of}
use Rattle.program_run.proofs.SoughtLines.{lines_few}
use Rattle.program_run.proofs.line_search.lines_to_point.Goals as goal

pub overflow_add-result : goal.overflow_add-result
overflow_add-result c =
    let node = c.args.node.now in
    omega (arith, c.inner_line_count.ensures, lines_few (row_of node.label.kind).sections node.inner, c.requires.few)
