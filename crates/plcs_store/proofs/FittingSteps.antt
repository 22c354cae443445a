-- `what_fits_has_a_step`, `steps_do_allowed_acts`: what fits a tree has a step, which does an act that is allowed.
-- ---- what parts of a step come to
pub mod Outcomes
-- what verdicts without an offence say of the parts of phrases
pub mod Found
pub mod Values
pub mod Locations
pub mod Expressions
-- ---- what stands in a tree
pub mod PhraseMarks
pub mod Phrases
pub mod Callees
-- ---- acts
pub mod Written
pub mod ReadItems
pub mod Acts
-- ---- what stands at a place, and the laws
pub mod Spots
pub mod FittingRuns
