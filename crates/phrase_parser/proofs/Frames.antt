-- The builder does as the machine.
-- `ensures` of what works on the stack: its frames are in a list
pub mod FrameStacks
-- `ensures` of `build`: a step that fails
pub mod FailedSteps
