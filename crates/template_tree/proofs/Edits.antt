-- What an edit does by slot and at a path, and what stands there after it.
-- an edit by slot is the edit at its path
pub mod SlotEdits
-- an edit where nothing stands, and one that does what another does
pub mod SameEdits
-- what stands at the path of an edit after it, how deep that is, and in which procedure
pub mod EditedNodes
-- what stands at the path of an edit after it, how deep that is, and in which procedure
pub mod Procedures
-- nothing is elided in a node that comes into a slot
pub mod RevealedNodes
