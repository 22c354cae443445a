-- ---- where each move goes
pub mod Move
-- ---- the laws of stops
pub mod StopLaws
-- ---- what private contracts alone cite
pub mod Private
