-- The machine reads nothing but what the tokens are: each token that it takes is one more that it has read, and what it
-- has read keeps its levels.
-- `says` of `parse`: what is joined at a sign keeps its tokens
pub mod JoinedOperands
-- `says` of `parse`: what one more token does
pub mod TakenTokens
-- `says` of `parse`: names, numbers and constants
pub mod TakenOperands
-- `says` of `parse`: `(`
pub mod OpenedParentheses
-- `says` of `parse`: `)`
pub mod ClosedParentheses
-- `says` of `parse`: `,`
pub mod Commas
-- `says` of `parse`: the signs of operators
pub mod Operators
-- `says` of `parse`: the tokens that are taken are those that are read
pub mod ReadTokens
-- `says` of `parse`: what is read is what the tokens are
pub mod ReadPhrases
