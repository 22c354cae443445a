-- Words that private contracts alone cite: nobody has to believe them.
-- ---- rows of cells, and what is written in them
pub mod PlainForm
pub mod RowCells
-- ---- the line of a point of a run, on the path to its node
pub mod PathLine
-- ---- a grid while a view is drawn on it, and the column of a stop
pub mod Drawing
-- ---- the buckets of a cache of lines
pub mod Buckets
