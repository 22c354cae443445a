use Rattle.std.proofs.Common.{◌≡◌, ◌<◌, ◌+◌, ◌-◌, length, ap, sym, ◌∙◌, arith}
use Rattle.std.proofs.lemmas.List.{length-set}
use Rattle.template_tree.specs.Positions.Path.{slot_at}
use Rattle.template_tree.specs.Programs.PlainTree.{roomless}
use Rattle.screen_window.specs.View.{plain_view}
use Rattle.screen_window.specs.Private.Drawing.{begins_stop, found_before, found_or, row_from, row_line}
use Rattle.screen_window.proofs.ComposedRows.{more_drawn}
use Rattle.screen_window.proofs.FoundRows.{found_more, laid_all, laid_more}
use Rattle.screen_window.proofs.composing.draw_rows.Goals as goal

-- one row more is drawn
pub loop-row-preserved : goal.loop-row-preserved
loop-row-preserved g c =
    let view = plain_view g.M.Marked.marks c.args.view.now in
    let slot = slot_at (roomless c.args.view.now.tree.now.items) c.args.view.now.stop.now.path.items in
    let line = row_line (c.args.grid.now.rows - 6) view c.loop-row.row in
    let laid_is = c.held_row-laid.ensures ∙ c.lay_row.ensures.line ∙ ap (λ n. row_line (n - 6) view c.loop-row.row) c.rows-rows.ensures.value in
    let found_is : c.found_or-found.result ≡ found_or c.loop-row.found (begins_stop slot line) c.loop-row.row =
    c.found_or-found.ensures
    ∙ ap (λ b. found_or c.loop-row.found b c.loop-row.row)
    (c.begins_stop.ensures ∙ ap (λ o. begins_stop c.stop_slot-stop.result o) laid_is ∙ ap (λ o. begins_stop o line) c.stop_slot-stop.ensures) in
    let below : c.loop-row.row < length c.loop-row.grid.lines = omega (arith, c.loop-row.invariant.count, c.loop-row-test.true, c.rows-rows.ensures.value) in
    record {
      drawn = more_drawn view c.args.grid.now c.loop-row.grid c.draw_row.new.grid c.loop-row.row c.loop-row.invariant.drawn below c.draw_row.ensures;
      count = ap (λ v. length v.lines) c.draw_row.ensures ∙ length-set c.loop-row.grid.lines c.loop-row.row _ ∙ c.loop-row.invariant.count;
      found = found_more view (slot_at (roomless c.args.view.now.tree.now.items) c.args.view.now.stop.now.path.items) (c.args.grid.now.rows - 6) c.loop-row.row c.loop-row.found _ c.loop-row.invariant.found
          ∙ ap (λ o. found_before o (row_from view slot (c.loop-row.row + 1) (c.args.grid.now.rows - 6 - (c.loop-row.row + 1)))) (sym found_is);
      held = c.lay_row.ensures.held;
      counts =
          let window = c.args.grid.now.rows - 6 in
          let same : c.rows-rows.result - 6 ≡ window = ap (λ n. n - 6) c.rows-rows.ensures.value in
          laid_more c.loop-row.row window _ _ _ c.counts_add_up.ensures.lays c.loop-row.invariant.counts
          (λ below. c.lay_row.ensures.lays (omega (arith, same, below)))
          (λ behind. c.lay_row.ensures.still (omega (arith, same, behind)));
    }

-- the window has no more rows than the screen
pub returns-clause-counts : goal.returns-clause-counts
returns-clause-counts g c =
    laid_all c.loop-row.row (c.args.grid.now.rows - 6) _ _ c.counts_add_up.ensures.lays c.loop-row.invariant.counts
