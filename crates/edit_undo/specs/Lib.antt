-- ---- how many edits can be undone
pub mod EditLimit
-- ---- the trees before
pub mod EarlierTree
-- ---- what the undoing of an edit answers
pub mod UndoneEdit
-- ---- the laws
pub mod EditLaws
-- ---- what private contracts alone cite
pub mod Private
