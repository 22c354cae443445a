-- Words that private contracts alone cite: nobody has to believe them.
-- ---- tokens of a text
pub mod PlacedToken
pub mod Front
pub mod Unquoted
pub mod TokenIn
-- ---- the machine that reads tokens, and the builder
pub mod Machine
pub mod MachineLevels
pub mod Views
pub mod Reduction
-- ---- the machine without trees, and the check
pub mod Recognizer
pub mod Findings
pub mod Shapes
pub mod FindingViews
