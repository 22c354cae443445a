-- The cells of a line while they are put.
use Rattle.std.specs.Prelude.{◌≡◌, ℕ, ◌≤◌, false, List, [], ◌∷◌, ◌++◌, length, take}
use Rattle.unparse_layout.specs.declared.lay.CellsOut.{CellsOut}
use Rattle.unparse_layout.specs.LaidLine.{screen_cell, longest_line}

-- these cells were put behind the others in a line, as far as a line goes
pub record HasMore (before after more : List ℕ) : Type 0 where
  pub cells : take longest_line after ≡ take longest_line (before ++ more)

-- a byte was put as a cell of a line, in the image in which bytes are put now
pub record PutsCell (before : CellsOut) (byte : ℕ) (after : CellsOut) : Type 0 where
  pub put : HasMore before.cells.items after.cells.items (screen_cell before.negative byte ∷ [])
  pub image : after.negative ≡ before.negative
  pub short : length after.cells.items ≤ longest_line

-- these cells of a line were put, and what comes is in default image again
pub record PutsAside (before : CellsOut) (more : List ℕ) (after : CellsOut) : Type 0 where
  pub put : HasMore before.cells.items after.cells.items more
  pub plain : after.negative ≡ false
  pub short : length after.cells.items ≤ longest_line
