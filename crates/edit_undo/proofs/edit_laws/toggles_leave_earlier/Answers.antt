use Rattle.edit_undo.proofs.ElidedTrees.{turned_earlier}
use Rattle.edit_undo.proofs.edit_laws.toggles_leave_earlier.Goals as goal

pub returns : goal.returns
returns c = turned_earlier c.reverts_ignore_elision.ensures.reverts c.reverts_ignore_elision.ensures.turns
