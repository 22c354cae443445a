-- The check finds what is so of the tokens.
-- `over` of `parse`: numbers are kept up to a greatest
pub mod KeptNumbers
-- `says` of `parse`: the machine without trees goes as the one with trees
pub mod Simulation
-- `says` of `parse`: the tokens that it takes, and their levels
pub mod RecognizedTokens
-- `says` of `parse`: what is found is so
pub mod FindingsSound
-- `syntax` of `parse`: what is so is found
pub mod FindingsComplete
-- `says` of `parse`: the tokens stand where they are kept
pub mod PlacedTokens
-- `says` of `parse`: what is found says what the text is
pub mod FindingsOfText
-- no cast in `phrase` loses a place
pub mod FindingOffsets
-- `ensures` of `phrase`
pub mod CheckAnswers
-- `ensures` of `next_operator`
pub mod OperatorTests
-- `ensures` of `bracketed`, `next_close_in` and `next_comma_in`
pub mod OpenBrackets
-- what `level_of` and `next` require of the shape in `check`: no level is too great to be counted
pub mod ShapeLevels
-- `ensures` of `check`: its loop keeps what is found
pub mod FindingsGoOn
