use Rattle.phrase_parser.proofs.Readings.CanonicalText.{canonical_reads}
use Rattle.phrase_parser.proofs.reading_laws.canonical_text_reads.Goals as goal

pub returns : goal.returns
returns c = canonical_reads
