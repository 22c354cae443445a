use Rattle.file_store.proofs.OneOutcome.{reads_only}
use Rattle.file_store.proofs.Outcomes.{refuses_only}
use Rattle.file_store.proofs.reader.read_listing.Goals as goal

pub returns-clause-only : goal.returns-clause-only
returns-clause-only c = λ items spells deep many. reads_only c.line_laws.ensures items c.args.bytes.now c.read_lines.result spells deep many c.read_lines.ensures

pub returns-clause-refused : goal.returns-clause-refused
returns-clause-refused c = λ refusal refused. refuses_only c.line_laws.ensures c.args.bytes.now refusal c.read_lines.result refused c.read_lines.ensures
