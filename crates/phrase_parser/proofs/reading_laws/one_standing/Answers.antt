use Rattle.phrase_parser.proofs.Readings.Standings.{one_standing}
use Rattle.phrase_parser.proofs.reading_laws.one_standing.Goals as goal

pub returns : goal.returns
returns c = one_standing
