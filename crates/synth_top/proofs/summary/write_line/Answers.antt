use Rattle.std.proofs.Common.{◌++◌, codes}
use Rattle.std.proofs.lemmas.Result.{err_from_is_err_and}
use Rattle.synth_top.proofs.summary.write_line.Goals as goal

-- its four parts, one after the other
pub returns : goal.returns
returns g c =
    let word = c.args.word.now in
    let told = c.args.told.now in
    c.writes_in_turn.ensures.both word
    ((codes " ") ++ (told ++ (codes "\n"))) _ _ _ _ _ _ _ _ _ _ c.in_ok-write_piece.ensures
    (c.writes_in_turn.ensures.both (codes " ") (told ++ (codes "\n")) _ _ _ _ _ _ _ _ _ _ c.in_ok-write_piece-2.ensures
    (c.writes_in_turn.ensures.both told (codes "\n") _ _ _ _ _ _ _ _ _ _ c.in_ok-write_piece-3.ensures
    c.write_piece-4.ensures))

pub returns-in_err-write_piece : goal.returns-in_err-write_piece
returns-in_err-write_piece g c =
    let word = c.args.word.now in
    let told = c.args.told.now in
    let p = err_from_is_err_and c.from_residual.result c.from_residual.ensures.1 in
    rw (p.1, p.2) (c.writes_in_turn.ensures.cut word
    ((codes " ") ++ (told ++ (codes "\n"))) _ _ _ _ _ _ _ c.in_err-write_piece.ensures)

pub returns-in_err-write_piece-2 : goal.returns-in_err-write_piece-2
returns-in_err-write_piece-2 g c =
    let word = c.args.word.now in
    let told = c.args.told.now in
    let p = err_from_is_err_and c.from_residual-in_err-write_piece-2.result
    c.from_residual-in_err-write_piece-2.ensures.1 in
    rw (p.1, p.2) (c.writes_in_turn.ensures.both word
    ((codes " ") ++ (told ++ (codes "\n"))) _ _ _ _ _ _ _ _ _ _ c.in_ok-write_piece.ensures
    (c.writes_in_turn.ensures.cut (codes " ") (told ++ (codes "\n")) _ _ _ _ _ _ _ c.in_err-write_piece-2.ensures))

pub returns-in_err-write_piece-3 : goal.returns-in_err-write_piece-3
returns-in_err-write_piece-3 g c =
    let word = c.args.word.now in
    let told = c.args.told.now in
    let p = err_from_is_err_and c.from_residual-in_err-write_piece-3.result
    c.from_residual-in_err-write_piece-3.ensures.1 in
    rw (p.1, p.2) (c.writes_in_turn.ensures.both word
    ((codes " ") ++ (told ++ (codes "\n"))) _ _ _ _ _ _ _ _ _ _ c.in_ok-write_piece.ensures
    (c.writes_in_turn.ensures.both (codes " ") (told ++ (codes "\n")) _ _ _ _ _ _ _ _ _ _ c.in_ok-write_piece-2.ensures
    (c.writes_in_turn.ensures.cut told (codes "\n") _ _ _ _ _ _ _ c.in_err-write_piece-3.ensures)))
