-- Holes that come into lists, or leave them.
-- a tree stays one where a hole comes into a list, or leaves it
pub mod ApartSections
-- a tree stays one where a hole comes into a list, or leaves it
pub mod FilledLists
-- a tree stays one where a hole comes into a list, or leaves it
pub mod ListTrees
-- a list changed by an item at the end of a path
pub mod ListChanges
-- which list an item stands in, and the items beside it
pub mod BesidePaths
-- a hole that came into a list, or left it, is an edit
pub mod ListEdits
