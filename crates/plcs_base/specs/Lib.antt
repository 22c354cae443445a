pub mod Byte
pub mod Name
pub mod Text
pub mod Count
pub mod PlainCounts
pub mod CountLaws
pub mod Put
pub mod Mark
pub mod Scope
-- ---- what follows from these and is cited by proofs of all crates
pub mod Putting
pub mod PlaceOrder
pub mod ListLeft
