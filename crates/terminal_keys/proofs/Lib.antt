-- the limits: their values
pub mod Limits
-- `passes` and `bells` of Begun::take: sequences cut off one after the other
pub mod Cuts
-- `passed` of pass_keys: fronts of bytes, and what was passed so far
pub mod Fronts
pub mod SoFar
