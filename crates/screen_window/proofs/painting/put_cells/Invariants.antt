use Rattle.std.proofs.Common.{◌≡◌, ◌≤◌, ◌+◌, ◌*◌, ◌++◌, drop, false}
use Rattle.arrayvec.specs.ArrayVec.{array_vec_len}
use Rattle.screen_window.specs.Paint.{spelled}
use Rattle.screen_window.proofs.painting.put_cells.Given as goal

-- what was put and what the other cells still give is the whole
abbrev pub invariant-loop-cell : goal.invariant-loop-cell
invariant-loop-cell l = record {
  whole : l.piece.items ++ spelled l.image (drop l.cell-index l.cells) ≡ l.fn.piece.items ++ spelled false l.cells;
  room : array_vec_len l.piece ≤ array_vec_len l.fn.piece + 5 * l.cell-index;
}
