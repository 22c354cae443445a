-- Earlier trees that come back, and edits reverted.
-- comments take the elision that they have now
pub mod ElidedComments
-- how often a comment stands in a slot before an edit and after it
pub mod CommentCounts
-- comments that stand before and after an edit are elided alike
pub mod EditedElision
-- an edit that was made can be reverted
pub mod RevertibleEdits
-- how trees differ by the reversal of an edit
pub mod ReverseChanges
-- what comes back in place of what was there
pub mod Exchanges
-- an edit is reverted, and can be again
pub mod RevertedTrees
-- nodes with nothing elided
pub mod ShownNodes
-- reversals don't depend on what is elided
pub mod ShownReversals
