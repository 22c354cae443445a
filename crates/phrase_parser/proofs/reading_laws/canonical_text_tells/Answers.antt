use Rattle.phrase_parser.proofs.Readings.CanonicalText.{canonical_tells}
use Rattle.phrase_parser.proofs.reading_laws.canonical_text_tells.Goals as goal

pub returns : goal.returns
returns c = canonical_tells
