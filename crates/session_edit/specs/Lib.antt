-- ---- edits as plain data
pub mod PlainEdit
-- ---- what may be done at a stop
pub mod Here
-- ---- where the cursor goes
pub mod Cursor
pub mod ShownStop
-- ---- what an edit does, and what is answered
pub mod Edited
pub mod AppliedEdit
-- ---- the law of steps
pub mod StepLaw
-- ---- what private contracts alone cite
pub mod Private
