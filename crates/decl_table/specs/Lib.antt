-- ---- tables as plain data, and which is that of a program
pub mod Names
pub mod PlainDecls
pub mod Agreement
-- ---- what is due for a check after an edit, and what a table has to know there
pub mod Due
pub mod DueCount
pub mod Knowledge
pub mod ListOffences
-- ---- prepared edits
pub mod DeclEdit
pub mod DeclLaws
pub mod DueLaws
-- ---- what private contracts alone cite
pub mod Private
