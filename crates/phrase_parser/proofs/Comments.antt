-- Texts of comments.
-- `ensures` of `trimmed`, and `says` of `comment`
pub mod TrimmedTexts
-- `says` of `comment`
pub mod CommentRefusals
