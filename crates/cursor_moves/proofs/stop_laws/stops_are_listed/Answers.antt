use Rattle.cursor_moves.proofs.Stops.ListedStops.{listed}
use Rattle.cursor_moves.proofs.stop_laws.stops_are_listed.Goals as goal

pub returns : goal.returns
returns c = listed
