-- the limit's value
mod Limits
-- `History::held`, `note`, `back`
pub mod Histories
-- `take_back`: the room for a loop
pub mod LoopRoom
-- `resuming_leaves_earlier`
pub mod ResumedConfigurations
-- `allowed_acts_are_recorded`
pub mod RecordedActs
