-- The law of painting: a terminal that shows a grid shows the one that is painted over it.
use Rattle.std.proofs.Common.{◌≡◌, ◌≤◌, ◌+◌, ℕ, false, List, [], length, ap, sym, ◌∙◌, subst, refl, arith}
use Rattle.std.specs.Prelude.{All}
use Rattle.screen_window.specs.declared.sequence.Sequence.TheVariants.{Absent}
use Rattle.screen_window.specs.Paint.{Paint, go_to, rows_paint}
use Rattle.screen_window.specs.PaintShows.{PaintShows}
use Rattle.screen_window.specs.PlainGrid.{IsRow}
use Rattle.screen_window.specs.PlainTerminal.{Shows}
use Rattle.screen_window.specs.Terminal.{Term, with_cursor_at, nearest, with_sequence}
use Rattle.screen_window.proofs.TakenBytes.{after_both}
use Rattle.screen_window.proofs.TakenNumbers.{gone_to}
use Rattle.screen_window.proofs.TakenRows.{rows_taken}

-- a place in a row of places is the nearest to its own number
own_place : (count number : ℕ) → 1 ≤ number → number ≤ count → nearest count number + 1 ≡ number
own_place count number least most = omega (arith, least, most)

pub paint_shows : PaintShows
unfolding Paint
paint_shows z old new is_old is_new same_rows same_cols shows =
    let count : length old.lines ≡ length new.lines = is_old.rows ∙ same_rows ∙ sym is_new.rows in
    let inside : length {A = List ℕ} [] + length old.lines ≡ z.rows = omega (arith, is_old.rows, shows.rows) in
    let widths : All (λ line. length line ≡ z.cols) old.lines = λ k d below. (is_old.lines k d below).width ∙ sym shows.cols in
    let cols : new.cols ≡ z.cols = sym (shows.cols ∙ same_cols) in
    let rows =
    rows_taken z [] old.lines new.lines count inside (omega (arith, shows.rows, is_old.size.most_rows)) (omega (arith, shows.cols, is_old.size.least_cols))
    shows.lines shows.image widths (subst (λ n. All (IsRow n) new.lines) cols is_new.lines) in
    let y = record z { lines = new.lines; above = rows.above; before = rows.before; negative = false; sequence = Absent } in
    let begun : z ≡ with_sequence z Absent = ap (with_sequence z) shows.finished in
    let cursor = gone_to y new.row new.col (omega (arith, is_new.most_row, is_new.size.most_rows)) (omega (arith, is_new.most_col, is_new.size.most_cols)) in
    let total : Term z (Paint old new) ≡ with_cursor_at y new.row new.col =
    ap (λ t. Term t (Paint old new)) begun ∙ after_both _ _ _ (rows_paint 1 old.lines new.lines) (go_to new.row new.col) rows.taken cursor in
    subst (λ t. Shows t new) (sym total)
    (record {
      rows = shows.rows ∙ same_rows;
      cols = shows.cols ∙ same_cols;
      lines = refl;
      row = own_place z.rows new.row is_new.least_row (omega (arith, is_new.most_row, shows.rows, same_rows));
      col = own_place z.cols new.col is_new.least_col (omega (arith, is_new.most_col, shows.cols, same_cols));
      image = refl;
      finished = refl;
    })
