use Rattle.phrase_parser.proofs.Readings.OneAnswer.{one_reading}
use Rattle.phrase_parser.proofs.reading_laws.one_reading.Goals as goal

pub returns : goal.returns
returns c = one_reading
