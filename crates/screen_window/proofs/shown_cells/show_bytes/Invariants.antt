use Rattle.std.proofs.Common.{◌≡◌, ◌+◌, ◌++◌, length, map, take}
use Rattle.screen_window.specs.ShownRow.{shown_cell}
use Rattle.screen_window.proofs.shown_cells.show_bytes.Given as goal

-- the bytes before this one are shown
abbrev pub invariant-loop-k : goal.invariant-loop-k
invariant-loop-k l = record {
  shown : take (l.from + l.k) l.line ≡ take l.from l.fn.line ++ map shown_cell (take l.k l.bytes);
  width : length l.line ≡ length l.fn.line;
}
