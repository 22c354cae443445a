-- Grids while a view is drawn on them, and columns as they are counted then.
use Rattle.std.specs.Prelude.{◌≡◌, ℕ, ◌<◌, min, Bool, false, nat_lt, if◌then◌else◌, List, [], slice_index_or, Option, None, Some, find}
use Rattle.std.specs.List.{range_with_len}
use Rattle.unparse_layout.specs.LaidLine.{PlainLine}
use Rattle.screen_window.specs.PlainGrid.{PlainGrid}
use Rattle.screen_window.specs.PlainView.{PlainView}
use Rattle.screen_window.specs.Cursor.{begins_node}
use Rattle.screen_window.specs.Window.{window_line}

-- the program's line in a row of the grid on which a view is drawn, where that lies in the window, which has so many
-- rows
abbrev pub row_line : ℕ → PlainView → ℕ → Option PlainLine
row_line window view row = if nat_lt row window then window_line view row else None

-- whether a line that is drawn is the first of the node in the slot, where there is a slot
abbrev pub begins_stop : Option ℕ → Option PlainLine → Bool
begins_stop None laid = false
begins_stop (Some slot) laid = begins_node slot laid

-- while a view is drawn, the first row of the window, of so many from this one on, that shows the node's first line
abbrev pub row_from : PlainView → Option ℕ → ℕ → ℕ → Option ℕ
row_from view slot from rows = find (λ row. begins_stop slot (window_line view row)) (range_with_len from rows)

-- the row of the cursor's stop that was found while drawing, or else this one where it is that
abbrev pub found_or : Option ℕ → Bool → ℕ → Option ℕ
found_or None here row = if here then Some row else None
found_or (Some found) here row = Some found

-- the row of the cursor's stop that was found while drawing, or else one that is found later
abbrev pub found_before : Option ℕ → Option ℕ → Option ℕ
found_before None later = later
found_before (Some found) later = Some found

-- the same grid but for its cursor, on which so many rows of a view are drawn
pub record IsDrawn (draw : ℕ → List ℕ) (count : ℕ) (old new : PlainGrid) : Type 0 where
  pub rows : new.rows ≡ old.rows
  pub cols : new.cols ≡ old.cols
  pub drawn : (k : ℕ) → k < count → slice_index_or new.lines k [] ≡ draw k

-- a column as it is counted while a view is drawn: the number, or the greatest one that is kept in 32 bits
abbrev pub capped : ℕ → ℕ
capped number = min number 4294967295
