use Rattle.edit_undo.proofs.NotedEdits.{noted}
use Rattle.edit_undo.proofs.edit_laws.edits_are_noted.Goals as goal

pub returns : goal.returns
returns c = noted c.receipts_revert_to_undone.ensures
