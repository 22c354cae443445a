use Rattle.std.proofs.Common.{length}
use Rattle.screen_window.proofs.node_line.+line_below.Given as goal

abbrev pub decreases-line_below : goal.decreases-line_below
decreases-line_below l = length l.path.now
