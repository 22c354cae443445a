-- the limits' values
mod Limits
-- what is said of a slot, place after place: `home`, `put`
pub mod SaidHomes
-- tables in which nothing is said: `forget`, `grow`
pub mod EmptyTables
-- what is said of a way, step after step: `way_to`
pub mod SaidWays
