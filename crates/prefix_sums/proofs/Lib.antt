-- sums of the first numbers of a list after one was set, put in or taken out
mod FirstSums
-- marks after one more of them was mended
pub mod Turns
