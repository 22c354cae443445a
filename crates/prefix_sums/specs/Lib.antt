-- ---- lists of numbers, and what is found in them
pub mod PlainPrefixSums
pub mod Found
-- ---- what private contracts alone cite
pub mod Private
