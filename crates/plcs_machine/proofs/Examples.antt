-- The definitions at work: each row is what is computed beside what is wanted.
pub mod Row
mod ByHand
mod Programs
mod Loops
mod Undefined
