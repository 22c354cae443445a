use Rattle.std.proofs.Common.{◌≡◌, ◌-◌, min, length}
use Rattle.plcs_base.specs.PlainCounts.{LaysAtMost}
use Rattle.template_tree.specs.Positions.Path.{slot_at}
use Rattle.template_tree.specs.Programs.PlainTree.{roomless}
use Rattle.screen_window.specs.HeldLines.{HoldLinesOf}
use Rattle.screen_window.specs.Screen.{screen_row, window_rows}
use Rattle.screen_window.specs.ShownRow.{shown_row}
use Rattle.screen_window.specs.View.{plain_view}
use Rattle.screen_window.specs.Private.Drawing.{IsDrawn, found_before, row_from}
use Rattle.screen_window.proofs.composing.draw_rows.Given as goal

-- the rows above this one are drawn, the line of the stop was looked for in them, and the lines that are held are the
-- program's
abbrev pub invariant-loop-row : goal.invariant-loop-row
invariant-loop-row g l = record {
  drawn : IsDrawn
      (λ row. shown_row l.fn.grid.cols (screen_row l.fn.grid.rows l.fn.grid.cols (plain_view g.M.Marked.marks l.view) row)) l.row l.fn.grid l.grid;
  count : length l.grid.lines ≡ l.fn.grid.rows;
  found : row_from (plain_view g.M.Marked.marks l.view) (slot_at (roomless l.view.tree.now.items) l.view.stop.now.path.items) 0 (window_rows l.fn.grid.rows)
      ≡ found_before l.found
      (row_from (plain_view g.M.Marked.marks l.view) (slot_at (roomless l.view.tree.now.items) l.view.stop.now.path.items) l.row (window_rows l.fn.grid.rows - l.row));
  held : HoldLinesOf (g.M.Marked.marks l.view.marks.now) (roomless l.view.tree.now.items) l.cache;
  counts : LaysAtMost (min l.row (window_rows l.fn.grid.rows)) (g.W.Work.counts l.fn.work) (g.W.Work.counts l.work);
}
