-- the limits: their values
pub mod Limits
-- `lines.rt`: rows of cells, one of which is changed
pub mod ChangedLines
-- `shown_cells.rt`: numbers that are shown, one more, several more and 8 at once
pub mod ShownCells
-- `row_text.rt`: what is put into the first cells of a row, and blanks behind it
pub mod ShownRows
-- Grid::show: grids of which a row was drawn
pub mod DrawnRows
-- `are_equal`: rows of one width, from the first place at which they differ
pub mod EqualRows
-- `cells` of visible_len: blanks at the end of a row
pub mod VisibleCells
-- `Writes` of the painting: fronts of bytes, bytes taken piece by piece, and bytes one after the other
pub mod Fronts
pub mod Owing
pub mod WritesInTurn
-- `rows` and `cols` of Terminal::take: no byte changes a terminal's size
pub mod TerminalSizes
-- `painted_terminal_shows`: bytes one after the other, the sequence that moves the cursor, cells in their image, and
-- rows
pub mod TakenBytes
pub mod TakenNumbers
pub mod TakenCells
pub mod TakenRows
pub mod PaintedTerminal
-- `place_line`: the line of a place of a run, found by the path of its slot
pub mod PlaceLines
-- `run_line` and `stop_node`: what is looked for in a tree without the room of its lists
pub mod RoomlessPlaces
-- `output_row`: lines of the output, looked for byte by byte
pub mod OutputLines
-- `line_cache.rt`: lines that are held in the buckets of a cache
pub mod HeldLines
-- `drawn` of compose: rows drawn one after the other, and the row of the cursor, looked for row by row
pub mod ComposedRows
pub mod FoundRows
