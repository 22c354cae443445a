use Rattle.phrase_parser.proofs.Readings.Standings.{over_past, past_over}
use Rattle.phrase_parser.proofs.reading_laws.over_is_past_limits.Goals as goal

pub returns : goal.returns
returns c = record { over = over_past; past = past_over }
