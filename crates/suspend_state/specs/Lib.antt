-- ---- what a suspended run keeps
pub mod Suspension
-- ---- what private contracts alone cite
pub mod Private
