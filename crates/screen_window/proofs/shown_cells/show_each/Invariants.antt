use Rattle.std.proofs.Common.{◌≡◌, ◌+◌, ◌++◌, length, map, take}
use Rattle.screen_window.specs.ShownRow.{shown_cell}
use Rattle.screen_window.proofs.shown_cells.show_each.Given as goal

-- the numbers before this one are shown
abbrev pub invariant-loop-k : goal.invariant-loop-k
invariant-loop-k l = record {
  shown : take (l.column + l.k) l.line ≡ take l.column l.fn.line ++ map shown_cell (take l.k l.cells);
  width : length l.line ≡ length l.fn.line;
}
