-- the values of the limits that `Name::read` and `TextValue::read` keep
mod Limits
-- bounds on counted work: the law `counts_add_up`, and each clause over `Work` of the crates above
pub mod Counting
-- `Name::of`, and `is_keyword`: how long names are, and keywords by their length
pub mod Words
