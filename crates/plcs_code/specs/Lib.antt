-- ---- instructions as plain data, and how they are shown
pub mod PlainInstr
pub mod InstrText
-- ---- the code of a program
pub mod ExprCode
pub mod Pieces
pub mod Gen
pub mod OwnCode
pub mod ProgramCode
-- ---- the laws of code
pub mod CodeLaws
pub mod Landing
-- ---- the limit of code, and counted work
pub mod BlockLimit
pub mod Counts
-- ---- what private contracts alone cite
pub mod Private
