-- The two screens of a session as plain data.
use Rattle.std.specs.Prelude.{◌≡◌}
use Rattle.screen_window.specs.PlainGrid.{PlainGrid}

-- the two screens of a session: the one that was painted last, and the one that is painted next
pub record PlainScreens : Type 0 where
  pub shown : PlainGrid
  pub next : PlainGrid

-- both screens of a session have one size: as many rows and columns
pub record HaveOneSize (one other : PlainGrid) : Type 0 where
  pub rows : one.rows ≡ other.rows
  pub cols : one.cols ≡ other.cols
