-- ---- screens
pub mod Limit
pub mod ScreenCell
pub mod PlainGrid
pub mod ShownRow
-- ---- what is shown on a screen, and where
pub mod PlainView
pub mod View
pub mod NodeLine
pub mod Window
pub mod HeldLines
pub mod LowerRows
pub mod Cursor
pub mod Screen
-- ---- painting
pub mod Paint
pub mod Writes
-- ---- the plain terminal
pub mod PlainTerminal
pub mod Terminal
-- ---- the law
pub mod PaintShows
-- ---- what private contracts alone cite
pub mod Private
