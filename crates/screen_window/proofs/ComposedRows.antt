-- Grids on which the rows of a view are drawn.
use Rattle.std.proofs.Common.{◌≡◌, ◌<◌, ℕ, ◌+◌, List, [], length, map, get_or, ap, ◌∙◌}
use Rattle.std.specs.List.{range_with_len}
use Rattle.std.proofs.lemmas.List.Edits.{fill_by_more}
use Rattle.std.proofs.lemmas.List.FromFn.{fill_by_all}
use Rattle.screen_window.specs.Cursor.{cursor_position}
use Rattle.screen_window.specs.PlainGrid.{PlainGrid}
use Rattle.screen_window.specs.PlainView.{PlainView}
use Rattle.screen_window.specs.Screen.{Screen, screen_row}
use Rattle.screen_window.specs.ShownRow.{shown_row}
use Rattle.screen_window.specs.Private.Drawing.{IsDrawn}
use Rattle.screen_window.specs.Private.RowCells.{with_row}

-- one row more is drawn
pub more_drawn : (view : PlainView) (old g new : PlainGrid) (row : ℕ) → IsDrawn (λ r. shown_row old.cols (screen_row old.rows old.cols view r)) row old g
    → row < length g.lines → new ≡ with_row g row (shown_row g.cols (screen_row g.rows g.cols view row))
    → IsDrawn (λ r. shown_row old.cols (screen_row old.rows old.cols view r)) (row + 1) old new
more_drawn view old g new row drawn below same =
    let draw : ℕ → List ℕ = λ r. shown_row old.cols (screen_row old.rows old.cols view r) in
    let own : shown_row g.cols (screen_row g.rows g.cols view row) ≡ draw row =
    ap (λ n. shown_row n (screen_row g.rows n view row)) drawn.cols ∙ ap (λ n. shown_row old.cols (screen_row n old.cols view row)) drawn.rows in
    let is : new ≡ with_row g row (draw row) = same ∙ ap (with_row g row) own in
    record {
      rows = ap (λ v. v.rows) is ∙ drawn.rows;
      cols = ap (λ v. v.cols) is ∙ drawn.cols;
      drawn = λ k before. ap (λ v. get_or v.lines k []) is ∙ fill_by_more draw g.lines row [] below drawn.drawn k before;
    }

-- all rows are drawn, and the cursor is placed
pub screen_drawn : (view : PlainView) (old new : PlainGrid) (rows cols row col : ℕ) → IsDrawn (λ r. shown_row old.cols (screen_row old.rows old.cols view r)) old.rows old new
    → length new.lines ≡ rows → rows ≡ new.rows → cols ≡ new.cols → row ≡ (cursor_position rows cols view).row → col ≡ (cursor_position rows cols view).col
    → record new { row = row; col = col } ≡ Screen old.rows old.cols view
unfolding Screen
screen_drawn view old new rows cols row col drawn count is_rows is_cols is_row is_col =
    let draw : ℕ → List ℕ = λ r. shown_row old.cols (screen_row old.rows old.cols view r) in
    let all = fill_by_all draw new.lines old.rows [] (count ∙ is_rows ∙ drawn.rows) drawn.drawn in
    let rows_old : rows ≡ old.rows = is_rows ∙ drawn.rows in
    let cols_old : cols ≡ old.cols = is_cols ∙ drawn.cols in
    ap (λ n. record { rows = n; cols = new.cols; lines = new.lines; row = row; col = col }) drawn.rows
    ∙ ap (λ n. record { rows = old.rows; cols = n; lines = new.lines; row = row; col = col }) drawn.cols
    ∙ ap (λ ls. record { rows = old.rows; cols = old.cols; lines = ls; row = row; col = col }) all
    ∙ ap (λ n. record { rows = old.rows; cols = old.cols; lines = map draw (range_with_len 0 old.rows); row = n; col = col })
    (is_row ∙ ap (λ n. (cursor_position n cols view).row) rows_old ∙ ap (λ n. (cursor_position old.rows n view).row) cols_old)
    ∙ ap (λ n. record { rows = old.rows; cols = old.cols; lines = map draw (range_with_len 0 old.rows); row = (cursor_position old.rows old.cols view).row; col = n })
    (is_col ∙ ap (λ n. (cursor_position n cols view).col) rows_old ∙ ap (λ n. (cursor_position old.rows n view).col) cols_old)
