-- Edits, their receipts and answers, and copies.
pub mod Hole
pub mod Edit
pub mod Lend
pub mod Elision
pub mod FreshNode
pub mod TreeEdit
pub mod Receipt
pub mod Reversal
pub mod ListItem
pub mod EditAnswer
pub mod Copy
