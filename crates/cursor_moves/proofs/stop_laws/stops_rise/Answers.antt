use Rattle.cursor_moves.proofs.Stops.RisingStops.{stops_rise}
use Rattle.cursor_moves.proofs.stop_laws.stops_rise.Goals as goal

pub returns : goal.returns
returns c = stops_rise
