use Rattle.session_edit.proofs.EditSteps.{answer_comes, edit_steps}
use Rattle.session_edit.proofs.step_law.edits_at_stops_are_steps.Goals as goal

pub returns-clause-made : goal.returns-clause-made
returns-clause-made c = edit_steps c.room_laws.ensures.nodes c.room_laws.ensures.edits c.edits_follow.ensures.room

pub returns-clause-answered : goal.returns-clause-answered
returns-clause-answered c =
    answer_comes c.room_laws.ensures.nodes c.room_laws.ensures.edits c.edits_follow.ensures.room c.edits_follow.ensures.one
