-- The sizes of screens.
use Rattle.std.specs.Prelude.{ℕ, ◌≤◌}
use Rattle.screen_window.specs.declared.limit.TheConstants.{FEWEST_ROWS, MOST_ROWS, FEWEST_COLS, MOST_COLS}

-- a screen may have so many rows and columns
pub record IsSize (rows cols : ℕ) : Type 0 where
  pub least_rows : FEWEST_ROWS ≤ rows
  pub most_rows : rows ≤ MOST_ROWS
  pub least_cols : FEWEST_COLS ≤ cols
  pub most_cols : cols ≤ MOST_COLS
