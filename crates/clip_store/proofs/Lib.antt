-- the value of each limit, which the definitions take from the code
mod Limits
-- what `put` makes of the pairs: their number, their slots, and that they stay within the limits
pub mod PutPairs
-- what isn't full takes the fragment, and the pairs stay within the limits
pub mod ClipLimits
-- the map's entries as pairs
pub mod MapPairs
-- `room_is_not_clipped`, `clips_are_kept_whole`, and what a copy is without room
pub mod RoomlessFragments
pub mod MappedPairs
