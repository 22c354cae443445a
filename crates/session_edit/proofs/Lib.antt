-- ---- the room of lists makes no difference: `wanted` and `takes`, and all edits
pub mod Room
-- ---- what may be done at a stop: `wanted` and `takes`
pub mod StopNodes
-- ---- paths to slots: `shown_stop`
pub mod ShownPaths
-- ---- where the cursor stands after an edit: `apply`
pub mod VisibleEdits
-- ---- what is answered to edits: `apply`
pub mod Outcomes
pub mod StopTests
pub mod PutCommands
pub mod PartCommands
pub mod DropCommands
pub mod BesideCommands
-- ---- what comes of an edit is a step: `edits_at_stops_are_steps`
pub mod EditSteps
