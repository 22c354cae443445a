-- Tokens of a text, and the one way to cut it.
-- `ensures` of `front_of`: a word or number ends where its run of bytes does
pub mod ByteRuns
-- `ensures` of `front_of`: which words are keywords and which are names
pub mod Words
-- `ensures` of `front_of`: where a character constant ends
pub mod QuotedTexts
-- `ensures` of `capped_value`
pub mod Numerals
-- `AreTokens` of `tokens`: each token that is found is one
pub mod FrontTokens
-- `AreTokens` of `tokens`: none there is longer
pub mod LongestFront
-- `only`, `over` and `syntax` of `parse`: a text is cut in one way
pub mod OneCut
-- `AreTokens` of `tokens`: the loop keeps it
pub mod CutSoFar
-- `ensures` of `constant_value`
pub mod ConstantValues
-- what `check` and `build` require of the tokens, and `CanonicalTextReads`: cut pieces stand in order and are sound
pub mod CutPieces
