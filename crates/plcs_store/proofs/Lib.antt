-- the values of the limits, which the definitions take from the code
mod Limits
-- the definitions at work, row by row; no clause needs them
mod Examples
-- `new_runs_fit`: the first place of main
pub mod FirstPlace
-- `new_runs_fit`: the cells of a new frame
pub mod NewCells
-- `new_runs_fit`
pub mod NewRuns
-- `write_items`: what doesn't fit
pub mod WrittenItems
-- `unedited_may_resume`
pub mod Unedited
-- `steps_taken_back`
pub mod TakenBack
-- `what_fits_has_a_step`, `steps_keep_fit`, `Loops::of`: the loop of a slot
pub mod LoopsOfSlots
-- `Loops::pop`, `Frames::pop`
pub mod PoppedItems
-- `Frames::set_cell`, `Frames::push_loop` and what else changes a frame by its number
pub mod IndexedFrames
-- `OperandValues`
pub mod NewestFirst
-- `what_fits_has_a_step`, `steps_do_allowed_acts`
pub mod FittingSteps
-- `steps_keep_fit`
pub mod KeptFit
-- `callers_wait`: the loops of a frame
pub mod LoopRoom
-- `items_keep_limits`
pub mod ItemLimits
-- `callers_wait`: the cells of a frame
pub mod FewCells
-- `runs_ignore_room_and_elision`: the substance of programs, what is kept of it, what stands at its places, and what
-- fits it
pub mod Substances
pub mod KeptPrograms
pub mod AlikeSpots
pub mod AlikeRuns
