use Rattle.std.proofs.Common.{ap, ◌∙◌}
use Rattle.screen_window.specs.View.{plain_view}
use Rattle.screen_window.proofs.ComposedRows.{screen_drawn}
use Rattle.screen_window.proofs.composing.compose.Goals as goal

-- all rows are drawn, and the cursor is placed
pub returns-clause-drawn : goal.returns-clause-drawn
returns-clause-drawn g c =
    c.place_cursor.ensures
    ∙ screen_drawn (plain_view g.M.Marked.marks c.args.view.now) c.args.grid.now c.draw_rows-found.new.grid c.rows.result c.cols.result _ _
    c.draw_rows-found.ensures.drawn c.rows.ensures.lines c.rows.ensures.value c.cols.ensures.value c.cursor_position-row.ensures.row c.cursor_position-row.ensures.col

-- the grid keeps its size
pub returns-clause-rows : goal.returns-clause-rows
returns-clause-rows g c = ap (λ v. v.rows) c.place_cursor.ensures ∙ c.draw_rows-found.ensures.drawn.rows

pub returns-clause-cols : goal.returns-clause-cols
returns-clause-cols g c = ap (λ v. v.cols) c.place_cursor.ensures ∙ c.draw_rows-found.ensures.drawn.cols
