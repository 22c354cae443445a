use Rattle.std.proofs.Common.{◌<◌, length, ap, ◌∙◌, arith}
use Rattle.screen_window.specs.Private.RowCells.{text_cells, with_row}
use Rattle.screen_window.specs.ShownRow.{shown_row}
use Rattle.screen_window.proofs.DrawnRows.{grid_again, row_drawn}
use Rattle.screen_window.proofs.grid.Grid.show.Goals as goal

pub invariant_of-self : goal.invariant_of-self
invariant_of-self c =
    let g = c.self.inside in
    let below : c.from.result < length g.lines.items = omega (arith, c.from.ensures, c.requires, ap (λ v. v.rows) c.self.view_is) in
    grid_again (λ line. line.items) g.lines.items g.cols g.row g.col c.from.result c.index_mut.result.now c.show_row.new.line _
    c.self.invariant below c.index_mut.ensures.value c.show_row.ensures

pub returns : goal.returns
returns c =
    let g = c.self.inside in
    let below : c.from.result < length g.lines.items = omega (arith, c.from.ensures, c.requires, ap (λ v. v.rows) c.self.view_is) in
    row_drawn (λ line. line.items) g.lines.items g.cols g.row g.col c.from.result c.index_mut.result.now c.show_row.new.line
    (λ n. text_cells n c.args.text) c.self.invariant below c.index_mut.ensures.value c.show_row.ensures
    ∙ ap (λ v. with_row v c.from.result (shown_row v.cols (text_cells v.cols c.args.text))) c.self.view_is
    ∙ ap (λ k. with_row c.args.self.now k (shown_row c.args.self.now.cols (text_cells c.args.self.now.cols c.args.text))) c.from.ensures
