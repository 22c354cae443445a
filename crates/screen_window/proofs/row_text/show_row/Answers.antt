use Rattle.std.proofs.Common.{◌≡◌, ◌-◌, ◌++◌, length, take, drop, replicate, subst, ap, ◌∙◌, arith}
use Rattle.std.proofs.lemmas.List.{take_at}
use Rattle.screen_window.specs.Private.RowCells.{ShowsFront, text_cells}
use Rattle.screen_window.proofs.ShownRows.{row_ends}
use Rattle.screen_window.proofs.row_text.show_row.Goals as goal

-- the first cells were put, and the others blanked
pub returns : goal.returns
returns c =
    let cols = length c.args.line.now.items in
    let first = c.put_text-end.new.line in
    let to = c.put_text-end.result in
    let put =
    subst (λ l. ShowsFront (length l) (text_cells (length l) c.args.text) first to) c.as_mut_slice.ensures.value
    c.put_text-end.ensures in
    let whole : take c.args.line.now.len (first ++ drop (length first) c.args.line.now.items) ≡ first =
    take_at first _ c.args.line.now.len (omega (arith, put.width, c.args.line.now.ok.0)) in
    row_ends cols (text_cells cols c.args.text) first to put _
    (c.blank_tail.ensures ∙ ap (λ l. take to l ++ replicate (length l - to) 32) whole)
