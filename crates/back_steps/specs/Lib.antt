-- ---- how far a run goes back
pub mod Limit
pub mod EarlierConfigurations
-- the laws
pub mod HistoryLaws
