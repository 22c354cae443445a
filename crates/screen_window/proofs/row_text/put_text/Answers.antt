use Rattle.std.proofs.Common.{◌++◌, [], length, subst, sym}
use Rattle.screen_window.specs.Private.RowCells.{ShowsFront, text_cells}
use Rattle.screen_window.proofs.ShownRows.{none_put, two_put}
use Rattle.screen_window.proofs.row_text.put_text.Goals as goal

-- the margin, and the line behind it
pub returns-in-Line : goal.returns-in-Line
returns-in-Line c =
    let line = c.args.line.now in
    let after = c.put_cells.new.line in
    let to = c.put_cells.result in
    let both =
    two_put line c.put_bytes-end.new.line after c.margin.result.now c.in-Line.cells.now c.put_bytes-end.result to
    (c.put_bytes-end.ensures.shown [] (none_put line)) (c.put_cells.ensures.shown c.margin.result.now) in
    subst (λ t. ShowsFront (length line) (text_cells (length line) t) after to) (sym c.in-Line.is)
    (subst (λ m. ShowsFront (length line) (m ++ c.in-Line.cells.now) after to) c.margin.ensures both)

-- the margin, and the instruction behind it
pub returns-in-Code : goal.returns-in-Code
returns-in-Code c =
    let line = c.args.line.now in
    let margin = c.margin-in-Code.result.now in
    let after = c.put_bytes.new.line in
    let to = c.put_bytes.result in
    let both =
    two_put line c.put_bytes-end-in-Code.new.line after margin c.in-Code.bytes.now c.put_bytes-end-in-Code.result to
    (c.put_bytes-end-in-Code.ensures.shown [] (none_put line)) (c.put_bytes.ensures.shown margin) in
    subst (λ t. ShowsFront (length line) (text_cells (length line) t) after to) (sym c.in-Code.is)
    (subst (λ m. ShowsFront (length line) (m ++ c.in-Code.bytes.now) after to) c.margin-in-Code.ensures both)

-- the text alone
pub returns-in-Text : goal.returns-in-Text
returns-in-Text c =
    let line = c.args.line.now in
    subst
    (λ t. ShowsFront (length line) (text_cells (length line) t) c.put_bytes-in-Text.new.line c.put_bytes-in-Text.result)
    (sym c.in-Text.is) (c.put_bytes-in-Text.ensures.shown [] (none_put line))

-- the prompt, and the typed line behind it
pub returns-in-Input : goal.returns-in-Input
returns-in-Input c =
    let line = c.args.line.now in
    let prompt = c.in-Input.prompt.now in
    let after = c.put_bytes-in-Input.new.line in
    let to = c.put_bytes-in-Input.result in
    let both =
    two_put line c.put_bytes-end-in-Input.new.line after prompt c.in-Input.typed.now c.put_bytes-end-in-Input.result to
    (c.put_bytes-end-in-Input.ensures.shown [] (none_put line)) (c.put_bytes-in-Input.ensures.shown prompt) in
    subst (λ t. ShowsFront (length line) (text_cells (length line) t) after to) (sym c.in-Input.is) both
