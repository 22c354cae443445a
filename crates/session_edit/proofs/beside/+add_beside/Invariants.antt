use Rattle.std.proofs.Common.{length}
use Rattle.session_edit.proofs.beside.+add_beside.Given as goal

abbrev pub decreases-add_beside : goal.decreases-add_beside
decreases-add_beside l = length l.path.items
