-- ---- the lines of the screen
pub mod OwnedLine
pub mod LaidLine
-- ---- the layout of a tree
pub mod Bones
pub mod Agreement
pub mod LayoutEdit
-- ---- what private contracts alone cite
pub mod Private
