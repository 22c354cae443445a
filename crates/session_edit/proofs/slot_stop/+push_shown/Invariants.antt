use Rattle.std.proofs.Common.{length}
use Rattle.session_edit.proofs.slot_stop.+push_shown.Given as goal

abbrev pub decreases-push_shown : goal.decreases-push_shown
decreases-push_shown l = length l.path.now
