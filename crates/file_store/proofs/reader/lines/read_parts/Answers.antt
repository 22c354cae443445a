use Rattle.std.proofs.Common.{ap, subst, sym}
use Rattle.plcs_grammar.specs.Template.{PlainRow}
use Rattle.file_store.specs.Private.LineReading.{IsCut}
use Rattle.file_store.proofs.Heads.{row_cut}
use Rattle.file_store.proofs.reader.lines.read_parts.Goals as goal

pub read_segments-requires : goal.read_segments-requires
read_segments-requires c = record { cut = subst IsCut (sym (ap (λ (row : PlainRow). row.line) c.row.ensures)) (row_cut c.args.kind) }
