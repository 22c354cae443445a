-- ---- what a run is in
pub mod Limit
pub mod CellAt
pub mod Configuration
-- ---- values
pub mod Outcome
pub mod Operator
pub mod BuiltinValue
pub mod ExpressionValue
-- ---- input and output
pub mod InputItem
pub mod OutputItem
-- ---- a step: what stands at a place, and what that does
pub mod Spot
pub mod NewFrame
pub mod LoopOfSlot
pub mod Act
pub mod Step
pub mod Undone
-- ---- what fits a program, and when a run may be resumed
pub mod Fits
pub mod Resume
-- ---- the laws
pub mod StepLaws
pub mod RunsAlike
-- ---- what private contracts alone cite
pub mod Private
