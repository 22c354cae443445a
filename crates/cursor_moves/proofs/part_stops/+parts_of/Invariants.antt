use Rattle.std.proofs.Common.{length}
use Rattle.cursor_moves.proofs.part_stops.+parts_of.Given as goal

abbrev pub decreases-parts_of : goal.decreases-parts_of
decreases-parts_of l = length l.line.now
