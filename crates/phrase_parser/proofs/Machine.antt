-- The machine reads exactly the forms of the grammar.
-- `over` and `only` of `parse`: what holds of each element of two lists holds of each of both
pub mod AllOfLists
-- `says` of `parse`: a name is a built-in function's or a variable's
pub mod BuiltinNames
-- `says` of `parse`: the tokens of an expression as a list
pub mod ExprSpelling
-- `says` of `parse`: the tokens of a phrase as a list
pub mod PhraseSpelling
-- `says` and `over` of `parse`: runs that stop, and the levels of those that don't
pub mod MachineRuns
-- `only` of `parse`: an expression's tokens are read as it
pub mod ExprsRead
-- `only` of `parse`: the tokens of a list are read as it
pub mod ListedItems
-- `only` of `parse`, and `OneReading`: each phrase is read from its tokens, and no other
pub mod Completeness
-- `says` of `parse`: the tokens that a state has read
pub mod ConsumedTokens
-- `says` of `parse`: what is read is what the tokens are
pub mod Soundness
-- `syntax` of `parse`: what is taken so far can be finished
pub mod ViablePrefixes
-- `over` and `only` of `parse`: a limit is passed exactly where a token passes it
pub mod Limits
