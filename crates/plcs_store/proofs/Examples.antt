-- The tables of the definitions at work: each row is a value beside the one that is computed.
pub mod Row
pub mod Programs
mod Numbers
mod Truth
mod Comparisons
mod Texts
mod Builtins
mod Variables
mod Input
mod Output
mod Steps
mod Faults
