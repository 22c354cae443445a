-- `has_parts`, `has_items`: lists that are compared item by item
pub mod ComparedLists
-- `procedure_in`, `node_in`: the node at a path, found by its slot
pub mod FoundSlots
-- `has_items`: the items of a procedure, and that they can be numbered
pub mod FewItems
-- `template_differs`
pub mod LiveTemplates
-- `may_resume`: one answer is right, that of the questions one after the other
pub mod AnsweredQuestions
-- `resumed_runs_fit`: what can't differ is the same
pub mod SettledEquations
-- where the same is held of a slot in two programs, the kind is the same, and the parts are
pub mod HeldTemplates
-- `resumed_runs_fit`: what a yes says of each frame
pub mod AllowedFrames
-- `resumed_runs_fit`: where a frame stood it stands
pub mod StandingFrames
-- `resumed_runs_fit`, `fitting_runs_are_resolved`: frames of which the newest is changed
pub mod NewestFrame
-- `resumed_runs_fit`
pub mod ResumedFrames
-- `fitting_runs_are_resolved`
pub mod ResolvedRuns
-- `kept_has_entries`
pub mod KeptEntries
-- `answers_follow_frames`
pub mod SameAnswers
-- `answers_ignore_room_and_elision`
pub mod AlikePrograms
