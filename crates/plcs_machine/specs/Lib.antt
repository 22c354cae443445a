-- ---- one step by code
pub mod Fetched
pub mod Reached
pub mod Lead
pub mod Passing
pub mod Exec
pub mod StepMade
-- ---- a new run by code
pub mod Enter
-- ---- the laws
pub mod MachineLaws
-- ---- what private contracts alone cite
pub mod Private
