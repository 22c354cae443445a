-- Where a node stands, where the cursor may stand, and where a run may.
pub mod Path
pub mod Stop
pub mod Place
