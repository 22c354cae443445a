use Rattle.std.proofs.Common.{◌<◌, ◌+◌, [], length, arith, ap, sym, ◌∙◌}
use Rattle.std.proofs.lemmas.Grind.{common_steps}
use Rattle.std.proofs.lemmas.Result.{err_from_is_err_and}
use Rattle.std.proofs.lemmas.List.Elements.{All-get_or}
use Rattle.screen_window.specs.PlainGrid.{IsRow}
use Rattle.screen_window.proofs.Owing.{owes_more, owes_failed, owes_row, row_again}
use Rattle.screen_window.proofs.WritesInTurn.{cause_passed}
use Rattle.screen_window.proofs.painting.paint_rows.Goals as goal

-- both rows are as wide as the screen
pub paint_row-requires : goal.paint_row-requires
paint_row-requires g c =
    let olds = c.args.old.now.lines in
    let news = c.args.new.now.lines in
    let old_grid = c.cells.ensures.grid in
    let grid = c.cells-in-loop-row.ensures.grid in
    let in_olds : c.loop-row.row < length olds =
    omega (arith, old_grid.rows, c.requires.rows, c.loop-row-test.true, c.rows-row-end.ensures.value) in
    let in_news : c.loop-row.row < length news =
    omega (arith, grid.rows, c.requires.rows, c.loop-row-test.true, c.rows-row-end.ensures.value) in
    let old_width = (All-get_or (IsRow c.args.old.now.cols) olds c.loop-row.row [] in_olds old_grid.lines).width in
    let width = (All-get_or (IsRow c.args.new.now.cols) news c.loop-row.row [] in_news grid.lines).width in
    let is_old = ap length (row_again olds c.loop-row.row c.cells.ensures.cells) in
    let is_new = ap length (row_again news c.loop-row.row c.cells-in-loop-row.ensures.cells) in
    record {
      width = is_old ∙ old_width ∙ c.requires.cols ∙ sym (is_new ∙ width);
      short = omega (arith, is_new, width, grid.size.most_cols);
    }

-- the rows before were taken, and some of this one
pub returns-in_err-paint_row : goal.returns-in_err-paint_row
returns-in_err-paint_row g c =
    let p = err_from_is_err_and c.from_residual.result c.from_residual.ensures.1 in
    let in_olds : c.loop-row.row < length c.args.old.now.lines = omega (arith, c.cells.ensures.grid.rows, c.requires.rows, c.loop-row-test.true, c.rows-row-end.ensures.value) in
    let in_news : c.loop-row.row < length c.args.new.now.lines = omega (arith, c.cells-in-loop-row.ensures.grid.rows, c.requires.rows, c.loop-row-test.true, c.rows-row-end.ensures.value) in
    rw (p.1, p.2)
    (record {
      all = tt;
      front = owes_failed _ _ _ _ _ _
          (owes_row _ _ (c.loop-row.row + 1) c.loop-row.row _ _ _ _ _ in_olds in_news (row_again c.args.old.now.lines c.loop-row.row c.cells.ensures.cells) (row_again c.args.new.now.lines c.loop-row.row c.cells-in-loop-row.ensures.cells) c.loop-row.invariant.owed)
          c.in_err-paint_row.ensures.front;
      cause = cause_passed _ _ _ _ _ c.loop-row.invariant.unfailed c.in_err-paint_row.ensures.cause;
      want = cause_passed _ _ _ _ _ c.loop-row.invariant.unwanted c.in_err-paint_row.ensures.want;
    })

-- this row was taken too
pub loop-row-preserved : goal.loop-row-preserved
loop-row-preserved g c =
    let in_olds : c.loop-row.row < length c.args.old.now.lines = omega (arith, c.cells.ensures.grid.rows, c.requires.rows, c.loop-row-test.true, c.rows-row-end.ensures.value) in
    let in_news : c.loop-row.row < length c.args.new.now.lines = omega (arith, c.cells-in-loop-row.ensures.grid.rows, c.requires.rows, c.loop-row-test.true, c.rows-row-end.ensures.value) in
    record {
      owed =
          owes_more _ _ _ _ _ _
          (owes_row _ _ (c.loop-row.row + 1) c.loop-row.row _ _ _ _ _ in_olds in_news (row_again c.args.old.now.lines c.loop-row.row c.cells.ensures.cells) (row_again c.args.new.now.lines c.loop-row.row c.cells-in-loop-row.ensures.cells) c.loop-row.invariant.owed)
          c.in_ok-paint_row.ensures.all;
      unfailed = grind (arith, common_steps, c.in_ok-paint_row.ensures.cause.same);
      unwanted = grind (arith, common_steps, c.in_ok-paint_row.ensures.want.same);
    }
