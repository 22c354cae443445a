-- ---- phrases as plain data, and the plain form of the code's
pub mod PlainPhrase
pub mod PlainExprCases
pub mod Category
-- ---- tokens
pub mod Sign
pub mod Builtin
pub mod Token
pub mod Cuts
pub mod TrimmedText
-- ---- which tokens are which phrase
pub mod Level
pub mod ListForm
pub mod PhraseForm
pub mod Comment
-- ---- limits
pub mod Limit
pub mod OpenedLevel
pub mod OverLimit
-- ---- what a text reads as, and where it goes wrong
pub mod Reads
pub mod SyntaxOffset
-- ---- what is written
pub mod Canon
pub mod Placeholder
pub mod ShownText
-- ---- what is written for each kind of node, and what stands inside it
pub mod Template
-- ---- what private contracts alone cite
pub mod Private
