-- What a step leads to fits again, part by part.
-- lists of which an item is changed
pub mod ChangedItems
-- what holds of what the parts of a step give
pub mod Outcomes
-- where a run goes on behind a node, and among what stands inside it
pub mod GoingOn
-- what is called
pub mod Callees
-- the places that follow what stands at a place
pub mod FollowingPlaces
-- the frames that fit, each by its number
pub mod FittingFrames
-- a value stored
pub mod StoredValues
-- the newest frame moved, called or left
pub mod MovedFrames
-- arguments by reference
pub mod Arguments
-- the variables of a called frame
pub mod Parameters
-- each act
pub mod DoneActs
-- `steps_keep_fit`
pub mod StepsKept
