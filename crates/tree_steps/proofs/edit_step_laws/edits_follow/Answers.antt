use Rattle.tree_steps.proofs.CallSteps.{edits_follow, room_is_no_edit, steps_are_ways, turns_are_no_edits}
use Rattle.tree_steps.proofs.edit_step_laws.edits_follow.Goals as goal

pub returns-clause-turns : goal.returns-clause-turns
returns-clause-turns c = turns_are_no_edits

pub returns-clause-room : goal.returns-clause-room
returns-clause-room c = room_is_no_edit

pub returns-clause-one : goal.returns-clause-one
returns-clause-one c = steps_are_ways

pub returns-clause-follow : goal.returns-clause-follow
returns-clause-follow c = edits_follow
