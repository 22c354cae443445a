-- Rows of a grid, and what is shown in them.
use Rattle.std.specs.Prelude.{ℕ, ◌+◌, Bool, nat_lt, if◌then◌else◌, List, [], ◌∷◌, map, slice_index_or}
use Rattle.std.specs.List.{range_with_len}
use Rattle.screen_window.specs.ScreenCell.{blank, is_screen_cell}

-- the cell that a row of a grid shows: what is no cell is shown as a blank
abbrev pub shown_cell : ℕ → ℕ
shown_cell cell = if is_screen_cell cell then cell else blank

-- the cell of a row in a column, which counts from 0: the last column and what lies behind the row's text are blank
abbrev pub cell_in : ℕ → List ℕ → ℕ → ℕ
cell_in cols cells col = if nat_lt (col + 1) cols then shown_cell (slice_index_or cells col blank) else blank

-- a row of the grid with these cells in it
unfoldable pub shown_row : ℕ → List ℕ → List ℕ
shown_row cols cells = map (cell_in cols cells) (range_with_len 0 cols)

-- what is shown first in a row of a grid, the margin of its line: `>` where the run stands, and a blank
abbrev pub margin : Bool → List ℕ
margin runs = (if runs then 62 else blank) ∷ blank ∷ []
