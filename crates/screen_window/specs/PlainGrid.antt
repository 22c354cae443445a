-- Grids as plain data: what a screen shows.
use Rattle.std.specs.Prelude.{◌≡◌, ℕ, ◌-◌, ◌≤◌, IsTrue, List, length, replicate, slice_index_or, All}
use Rattle.screen_window.specs.ScreenCell.{blank, is_screen_cell}
use Rattle.screen_window.specs.Limit.{IsSize}

-- a grid: how many rows and columns it has, its rows of cells from the top, and the cursor's row and column, which
-- count from 1
pub record PlainGrid : Type 0 where
  pub rows : ℕ
  pub cols : ℕ
  pub lines : List (List ℕ)
  pub row : ℕ
  pub col : ℕ

-- the rows of a grid of blanks
abbrev pub blank_lines : ℕ → ℕ → List (List ℕ)
blank_lines rows cols = replicate rows (replicate cols blank)

-- a grid on which nothing is shown, with the cursor in its first place
abbrev pub blank_grid : ℕ → ℕ → PlainGrid
blank_grid rows cols = record { rows = rows; cols = cols; lines = blank_lines rows cols; row = 1; col = 1 }

-- a grid's rows: there are so many, each with so many cells
pub record AreLines (rows cols : ℕ) (lines : List (List ℕ)) : Type 0 where
  pub count : length lines ≡ rows
  pub width : All (λ line. length line ≡ cols) lines

-- a row of a grid as plain data: as many cells as columns, the last of them blank
pub record IsRow (cols : ℕ) (line : List ℕ) : Type 0 where
  pub width : length line ≡ cols
  pub cells : All (λ cell. IsTrue (is_screen_cell cell)) line
  pub last : slice_index_or line (cols - 1) blank ≡ blank

-- a grid's rows are rows of its size, and its cursor lies in it
pub record IsGrid (g : PlainGrid) : Type 0 where
  pub size : IsSize g.rows g.cols
  pub rows : length g.lines ≡ g.rows
  pub lines : All (IsRow g.cols) g.lines
  pub least_row : 1 ≤ g.row
  pub most_row : g.row ≤ g.rows
  pub least_col : 1 ≤ g.col
  pub most_col : g.col ≤ g.cols
