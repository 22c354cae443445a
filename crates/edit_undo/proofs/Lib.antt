-- the limits' values
mod Limits
-- `EditRing::note`, `undo`: the edits that are kept, and those that are dropped
pub mod LatestEdits
-- `EditRing`: its records in memory
pub mod KeptRings
-- `EditRing::note`, `undo`, `put_back`: the trees before
pub mod TreesBefore
-- `edits_are_noted`
pub mod NotedEdits
-- `undone_trees_check_alike`, `toggles_leave_earlier`
pub mod ElidedTrees
-- `EditRing::undo`: what is told of the newest edit
pub mod UndoneEdits
