-- Terminals as plain data.
use Rattle.std.specs.Prelude.{◌≡◌, ℕ, ◌+◌, ◌<◌, Bool, false, List}
use Rattle.screen_window.specs.declared.sequence.Sequence.{Sequence}
use Rattle.screen_window.specs.PlainGrid.{PlainGrid, AreLines, blank_lines}
use Rattle.screen_window.specs.Limit.{IsSize}

-- a terminal: how many rows and columns it has, its rows of cells from the top, how many rows are above the cursor and
-- how many cells in front of it, whether the image is the negative one, and what was taken of a control sequence
pub record PlainTerminal : Type 0 where
  pub rows : ℕ
  pub cols : ℕ
  pub lines : List (List ℕ)
  pub above : ℕ
  pub before : ℕ
  pub negative : Bool
  pub sequence : Sequence

-- a new terminal as plain data: blank, in default image, with the cursor in its first place
abbrev pub new_terminal : ℕ → ℕ → PlainTerminal
new_terminal rows cols = record {
  rows = rows;
  cols = cols;
  lines = blank_lines rows cols;
  above = 0;
  before = 0;
  negative = false;
  sequence = Sequence.Absent;
}

-- a terminal's rows are as many and as wide as its size says, and its cursor lies in it
pub record IsTerminal (z : PlainTerminal) : Type 0 where
  pub size : IsSize z.rows z.cols
  pub lines : AreLines z.rows z.cols z.lines
  pub above : z.above < z.rows
  pub before : z.before < z.cols

-- when a terminal as plain data shows a grid of its size: its cells and cursor are the grid's, its image is the default
-- one, and no sequence is unfinished
pub record Shows (z : PlainTerminal) (g : PlainGrid) : Type 0 where
  pub rows : z.rows ≡ g.rows
  pub cols : z.cols ≡ g.cols
  pub lines : z.lines ≡ g.lines
  pub row : z.above + 1 ≡ g.row
  pub col : z.before + 1 ≡ g.col
  pub image : z.negative ≡ false
  pub finished : z.sequence ≡ Sequence.Absent
