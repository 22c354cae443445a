-- the value of the greatest number that is kept
mod Limits
-- `AreTokens` of `tokens`, and `says` of `parse`: a sign or a built-in function that is found is the one of its name
mod FoundElements
-- what `tokens` ensures: the text is cut into its longest tokens
mod Tokens
-- `says` and `only` of `parse`: the machine reads the forms of the grammar, and nothing else
mod Machine
-- `over` and `syntax` of `parse`: what the check finds is so, and what is so it finds
mod Findings
-- what `build` ensures
mod Frames
-- what `comment` ensures
mod Comments
-- `only`, `well_formed` and `category` of `parse`, and the laws
pub mod Readings
-- the laws on parts of lines, and the clause of `cut_at`
mod Lines
