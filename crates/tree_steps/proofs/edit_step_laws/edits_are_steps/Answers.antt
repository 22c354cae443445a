use Rattle.tree_steps.proofs.CallSteps.{add_hole_is_step, drop_hole_is_step, fill_assign_is_step, fill_is_step, insert_is_step, set_phrase_is_step, take_is_step}
use Rattle.tree_steps.proofs.edit_step_laws.edits_are_steps.Goals as goal

pub returns-clause-fill : goal.returns-clause-fill
returns-clause-fill c = fill_is_step

pub returns-clause-fill_assign : goal.returns-clause-fill_assign
returns-clause-fill_assign c = fill_assign_is_step

pub returns-clause-insert : goal.returns-clause-insert
returns-clause-insert c = insert_is_step

pub returns-clause-set_phrase : goal.returns-clause-set_phrase
returns-clause-set_phrase c = set_phrase_is_step

pub returns-clause-take : goal.returns-clause-take
returns-clause-take c = take_is_step

pub returns-clause-add_hole : goal.returns-clause-add_hole
returns-clause-add_hole c = add_hole_is_step

pub returns-clause-drop_hole : goal.returns-clause-drop_hole
returns-clause-drop_hole c = drop_hole_is_step
