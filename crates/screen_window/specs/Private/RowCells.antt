-- What is written in a row before it is shown, the first cells that show it, and a grid with another row.
use Rattle.std.specs.Prelude.{◌≡◌, ℕ, ◌-◌, min, false, List, ◌++◌, length, map, replicate, slice_set, take}
use Rattle.screen_window.specs.declared.row_text.RowText.{RowText}
use Rattle.screen_window.specs.declared.row_text.RowText.TheVariants.{Line, Code, Text, Dashes, Input}
use Rattle.screen_window.specs.PlainGrid.{PlainGrid}
use Rattle.screen_window.specs.ShownRow.{margin, shown_cell}

-- the cells of what is written in a row of so many columns
abbrev pub text_cells : ℕ → RowText → List ℕ
text_cells cols (Line runs cells) = margin runs ++ cells.now
text_cells cols (Code bytes) = margin false ++ bytes.now
text_cells cols (Text bytes) = bytes.now
text_cells cols Dashes = replicate (cols - 1) 45
text_cells cols (Input prompt typed) = prompt.now ++ typed.now

-- the first cells of a row of so many columns, up to this one, show what is written in it: all of that, or as much as
-- goes before the last column
pub record ShowsFront (cols : ℕ) (cells line : List ℕ) (to : ℕ) : Type 0 where
  pub width : length line ≡ cols
  pub reach : to ≡ min (length cells) (cols - 1)
  pub shown : take to line ≡ map shown_cell (take to cells)

-- a grid with another row
abbrev pub with_row : PlainGrid → ℕ → List ℕ → PlainGrid
with_row g row line = record g { lines = slice_set g.lines row line }
