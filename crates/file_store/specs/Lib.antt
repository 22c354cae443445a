-- ---- listings
pub mod Limit
pub mod ListedLine
pub mod Loaded
pub mod ListingLaws
-- ---- files
pub mod FileReading
pub mod Saved
pub mod Want
-- ---- what private contracts alone cite
pub mod Private
