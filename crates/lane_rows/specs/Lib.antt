-- ---- rows of cells, and bytes of text
pub mod CellRow
pub mod TextByte
-- ---- what private contracts alone cite
pub mod Private
