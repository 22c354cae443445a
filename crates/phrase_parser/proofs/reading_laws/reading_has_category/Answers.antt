use Rattle.phrase_parser.proofs.Readings.Standings.{reading_category}
use Rattle.phrase_parser.proofs.reading_laws.reading_has_category.Goals as goal

pub returns : goal.returns
returns c = reading_category
