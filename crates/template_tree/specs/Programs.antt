-- Nodes and trees as plain data; which of them are programs, and trees within the limits.
pub mod PlainTree
pub mod PlainPhrasePlace
pub mod Limit
pub mod Program
pub mod Part
pub mod Slots
pub mod Tree
pub mod NewTree
pub mod Build
