use Rattle.cursor_moves.proofs.Stops.DistinctStops.{distinct}
use Rattle.cursor_moves.proofs.stop_laws.stops_are_distinct.Goals as goal

pub returns : goal.returns
returns c = distinct
