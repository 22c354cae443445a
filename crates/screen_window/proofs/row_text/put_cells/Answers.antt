use Rattle.std.proofs.Common.{◌≡◌, ◌+◌, length, take, ap, sym, ◌∙◌, arith}
use Rattle.std.proofs.lemmas.List.{length-take-le}
use Rattle.screen_window.proofs.ShownRows.{more_put}
use Rattle.screen_window.proofs.row_text.put_cells.Goals as goal

-- the cells that fit were shown behind the front
pub returns-clause-shown : goal.returns-clause-shown
returns-clause-shown c = λ front put.
    let line = c.args.line.now in
    let cells = c.args.cells.now in
    let count = c.min-count.result in
    let some : length (take count cells) ≡ count = length-take-le count cells (omega arith) in
    more_put (length line) front cells line c.show_cells.new.line c.args.from count put (omega arith)
    c.show_cells.ensures.width
    (ap (λ n. take (c.args.from + n) c.show_cells.new.line) (sym some) ∙ c.show_cells.ensures.shown)
