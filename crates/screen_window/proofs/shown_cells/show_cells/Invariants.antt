use Rattle.std.proofs.Common.{◌≡◌, ◌+◌, ◌-◌, ◌≤◌, ◌++◌, length, map, take}
use Rattle.screen_window.specs.ShownRow.{shown_cell}
use Rattle.screen_window.proofs.shown_cells.show_cells.Given as goal

-- the numbers before this one are shown
abbrev pub invariant-loop-at : goal.invariant-loop-at
invariant-loop-at l = record {
  within : l.at ≤ length l.cells;
  shown : take (l.from + l.at) l.line ≡ take l.from l.fn.line ++ map shown_cell (take l.at l.cells);
  width : length l.line ≡ length l.fn.line;
}

abbrev pub decreases-loop-at : goal.decreases-loop-at
decreases-loop-at l = length l.cells - l.at
