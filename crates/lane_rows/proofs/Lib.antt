-- the cells of two rows before the first lane in which they differ
pub mod CellLanes
-- the bytes before the first lane that isn't of a text, and what they say of the whole
pub mod ByteLanes
