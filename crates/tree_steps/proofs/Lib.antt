-- the definitions at work; no clause needs them
mod Examples
mod StepExamples
-- `slots_stand`
pub mod StandingSlots
-- nodes of the same substance: where their slots stand, and comments turned
pub mod Substances
-- `agreement_lasts`: what stands in a slot after an edit
pub mod EditedSlots
-- `agreement_lasts`
pub mod AgreeingTrees
-- `edits_are_steps`, `edits_follow`
pub mod CallSteps
-- `places_ignore_room_and_elision`: places in nodes of the same substance
pub mod PlaceSubstances
-- `places_ignore_room_and_elision`
pub mod RoomlessPlaces
-- `sites_stand`
pub mod SitedSlots
-- `places_last`
pub mod KeptPlaces
-- `list_marks_follow_items`: the mark at a place
pub mod PlaceMarks
-- `list_marks_follow_items`
pub mod ListMarks
