-- What the answers say of a text, and its canonical text.
-- `only`, `over` and `syntax` of `parse`, and `OneReading`
pub mod OneAnswer
-- `CanonicalTextReads`: texts written token after token
pub mod LexedTexts
-- `CanonicalTextReads`: the tokens of a canonical text
pub mod CanonicalTokens
-- `well_formed` of `parse`, `CanonicalTextReads` and `CanonicalTextTells`
pub mod CanonicalText
-- `one_standing`: there is always something that the text is
pub mod WholeCuts
-- `category` of `parse`, `one_standing`, `over_is_past_limits`, `reading_has_category`
pub mod Standings
