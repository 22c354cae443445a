-- Words that private contracts alone cite: nobody has to believe them.
-- ---- kept nodes one by one, and how they are told apart
pub mod PlainCodeNode
pub mod CodeForestCode
pub mod Weight
pub mod JumpRoom
-- ---- kept nodes by their slots
pub mod LocatedNode
pub mod LocatedView
pub mod KeptPaths
-- ---- the names of items
pub mod ItemNames
-- ---- what kept nodes in memory are seen as
pub mod CodeNodeView
pub mod CodeTreeView
-- ---- what has nodes of a tree inside
pub mod OuterNodes
-- ---- prepared edits in memory, step by step
pub mod CodeEditCode
pub mod StepsView
pub mod MadeJumps
pub mod StepsFall
pub mod PlainSteps
pub mod ActedLists
-- ---- what a test of touched slots covers
pub mod CoversTouched
-- ---- how near kept code is to that after an edit
pub mod NearCode
pub mod EditCosts
pub mod PreparedNodes
pub mod ListSteps
pub mod NodeEditBy
