use Rattle.plcs_code.proofs.HeadingEntries.{entries_are_headings, entries_begin_procedures}
use Rattle.plcs_code.proofs.code_laws.entries_are_headings.Goals as goal

pub returns-clause-headings : goal.returns-clause-headings
returns-clause-headings c = entries_are_headings

pub returns-clause-addresses : goal.returns-clause-addresses
returns-clause-addresses c = entries_begin_procedures
