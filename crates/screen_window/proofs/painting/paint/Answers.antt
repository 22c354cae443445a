use Rattle.std.proofs.lemmas.Result.{err_from_is_err_and}
use Rattle.screen_window.specs.Paint.{Paint}
use Rattle.screen_window.proofs.WritesInTurn.{writes_both, writes_first}
use Rattle.screen_window.proofs.painting.paint.Goals as goal

-- some of the rows were taken
pub returns-in_err-paint_rows : goal.returns-in_err-paint_rows
unfolding Paint
returns-in_err-paint_rows g c =
    let p = err_from_is_err_and c.from_residual.result c.from_residual.ensures.1 in
    rw (p.1, p.2) (writes_first _ _ _ _ _ _ _ _ _ c.in_err-paint_rows.ensures)

-- all rows were taken, and then the cursor's place or some of it
pub returns : goal.returns
unfolding Paint
returns g c = writes_both _ _ _ _ _ _ _ _ _ _ _ _ _ c.in_ok-paint_rows.ensures c.paint_cursor.ensures
