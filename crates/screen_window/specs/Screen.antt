-- The grid on which a view is shown, row by row, and how many of its rows the window has.
use Rattle.std.specs.Prelude.{ℕ, ◌+◌, ◌-◌, ◌==◌, nat_lt, if◌then◌else◌, List, map, replicate}
use Rattle.std.specs.List.{range_with_len}
use Rattle.screen_window.specs.declared.limit.TheConstants.{OTHER_ROWS}
use Rattle.screen_window.specs.Cursor.{cursor_position}
use Rattle.screen_window.specs.LowerRows.{input_row, message_row, output_row}
use Rattle.screen_window.specs.PlainGrid.{PlainGrid}
use Rattle.screen_window.specs.PlainView.{PlainView}
use Rattle.screen_window.specs.ShownRow.{shown_row}
use Rattle.screen_window.specs.Window.{window_row}

-- ---- the rows

-- how many of a screen's rows are the window's: all but those below it
abbrev pub window_rows : ℕ → ℕ
window_rows rows = rows - OTHER_ROWS

-- what stands in each row of the screen, which counts from 0: the window, a row of dashes, three rows of output, the
-- message, and the prompt with the typed line
unfoldable pub screen_row : (rows cols : ℕ) → PlainView → ℕ → List ℕ
screen_row rows cols view row =
    if nat_lt row (window_rows rows) then window_row view row
    else (if row == window_rows rows then replicate (cols - 1) 45
    else (if nat_lt row (rows - 2) then output_row view.output (row - (window_rows rows + 1))
    else (if row == rows - 2 then message_row view
    else input_row cols view)))

-- ---- the grid

-- the whole grid of so many rows and columns on which the view is shown
unfoldable pub Screen : (rows cols : ℕ) → PlainView → PlainGrid
Screen rows cols view =
    let cursor = cursor_position rows cols view in
    record {
      rows = rows;
      cols = cols;
      lines = map (λ row. shown_row cols (screen_row rows cols view row)) (range_with_len 0 rows);
      row = cursor.row;
      col = cursor.col;
    }
