use Rattle.template_tree.proofs.tree_laws.slot_edit_is_path_edit.Goals as goal
use Rattle.template_tree.proofs.Edits.SlotEdits.{slot_edit_is_path_edit}

pub returns : goal.returns
returns c = slot_edit_is_path_edit
