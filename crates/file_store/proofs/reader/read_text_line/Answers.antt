use Rattle.file_store.proofs.PrintedLines.{unprintable}
use Rattle.std.proofs.Common.{◌∙◌, sym}
use Rattle.file_store.proofs.reader.read_text_line.Goals as goal

pub returns-then-not-has_text_bytes-clause-says : goal.returns-then-not-has_text_bytes-clause-says
returns-then-not-has_text_bytes-clause-says c =
    unprintable c.line_laws.ensures c.args.printable c.args.line.now (sym c.has_text_bytes.ensures ∙ c.if-not-has_text_bytes.true)
