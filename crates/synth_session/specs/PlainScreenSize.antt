-- Sizes of screens as plain data.
use Rattle.std.specs.Prelude.{ℕ}
use Rattle.screen_window.specs.Limit.{IsSize}

-- the size of a screen: how many rows and columns it has
pub record PlainScreenSize : Type 0 where
  pub rows : ℕ
  pub cols : ℕ

-- a size of a screen that is within the bounds
abbrev pub IsScreenSize : PlainScreenSize → Type 0
IsScreenSize size = IsSize size.rows size.cols
