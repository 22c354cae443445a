-- Phrases put into parts.
-- a part that takes something is there
pub mod PartLists
-- a part that was set is an edit, which its receipt undoes
pub mod PartEdits
-- a tree stays one where a part is set, or a comment turned
pub mod KeptTrees
