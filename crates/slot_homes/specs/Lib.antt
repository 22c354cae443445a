-- what is said of slots, and of the ways to them
pub mod Said
