use Rattle.std.proofs.Common.{◌≡◌, ◌+◌, length, take, ap, sym, ◌∙◌, arith}
use Rattle.std.proofs.lemmas.List.{length-take-le}
use Rattle.screen_window.proofs.ShownRows.{more_put}
use Rattle.screen_window.proofs.row_text.put_bytes.Goals as goal

-- the bytes that fit were shown behind the front
pub returns-clause-shown : goal.returns-clause-shown
returns-clause-shown c = λ front put.
    let line = c.args.line.now in
    let bytes = c.args.bytes.now in
    let count = c.min-count.result in
    let some : length (take count bytes) ≡ count = length-take-le count bytes (omega arith) in
    more_put (length line) front bytes line c.show_bytes.new.line c.args.from count put (omega arith)
    c.show_bytes.ensures.width
    (ap (λ n. take (c.args.from + n) c.show_bytes.new.line) (sym some) ∙ c.show_bytes.ensures.shown)
