-- ---- how a session ends
pub mod KeptStatus
-- ---- what became of its keys and of its disk
pub mod Closing
pub mod KeptWholeRun
-- ---- what private contracts alone cite
pub mod Private
