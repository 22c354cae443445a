-- ---- where slots stand
pub mod StandingSlot
-- ---- edits as steps
pub mod EditStep
pub mod SlotAgreement
-- ---- places of a run
pub mod RunPlace
-- ---- the laws
pub mod EditStepLaws
pub mod AgreementLaws
pub mod PlaceLaws
pub mod ListVerdict
