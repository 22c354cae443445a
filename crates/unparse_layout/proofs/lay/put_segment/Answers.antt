use Rattle.std.proofs.Common.{sym, subst}
use Rattle.plcs_grammar.specs.declared.row.Segment.{Segment}
use Rattle.plcs_grammar.specs.Template.{plain_segment}
use Rattle.unparse_layout.specs.LaidLine.{stretch_cells}
use Rattle.unparse_layout.specs.OwnedLine.{stretch_of}
use Rattle.unparse_layout.specs.Private.Cells.{PutsAside}
use Rattle.unparse_layout.proofs.PutCells.{plain_cells, plain_put}
use Rattle.unparse_layout.proofs.lay.put_segment.Goals as goal

pub returns-in-Words-clause-put : goal.returns-in-Words-clause-put
returns-in-Words-clause-put g c =
    subst (λ (s : Segment). PutsAside c.args.out.now (stretch_cells (g.M.Marked.marks c.args.marks.now) c.args.node.now.label.slot (stretch_of c.args.part (plain_segment s) c.args.node.now.label.parts)) c.put_bytes.new.out)
    (sym c.in-Words.is)
    (subst (λ xs. PutsAside c.args.out.now xs c.put_bytes.new.out) (sym (plain_cells c.in-Words.bytes.now))
    (plain_put c.args.out.now c.put_bytes.new.out c.in-Words.bytes.now c.requires.plain c.requires.short c.put_bytes.ensures))
