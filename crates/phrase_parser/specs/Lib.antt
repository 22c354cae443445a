-- ---- what each answer says
pub mod Answers
-- ---- what a step that reads gives
pub mod NotRead
-- ---- the laws of what texts read as
pub mod Standing
pub mod ReadingLaws
-- ---- parts of lines, and their laws
pub mod LineParts
pub mod LinePartLaws
-- ---- what private contracts alone cite
pub mod Private
