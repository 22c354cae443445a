-- Words that private contracts alone cite: nobody has to believe them.
-- ---- the table of built-in functions in the code, and their arguments
pub mod PlainBuiltinRow
pub mod Arguments
-- ---- chains of operators
pub mod Chain
-- ---- the arguments of a call
pub mod CallArguments
-- ---- declared items, one after the other
pub mod DeclaredItems
-- ---- what verdicts and marks are in memory, and how they are noted
pub mod MarksView
pub mod CheckedLists
