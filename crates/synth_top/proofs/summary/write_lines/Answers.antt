-- The lines are written in turn: where all were, what was written is one after the other, and else a front of that, up
-- to the line that was cut short.
use Rattle.std.proofs.Common.{◌++◌, codes, decimal}
use Rattle.std.proofs.lemmas.Result.{err_from_is_err_and}
use Rattle.synth_top.specs.Summary.{summary_line}
use Rattle.synth_top.proofs.summary.write_lines.Goals as goal

-- its four lines, one after the other
pub returns : goal.returns
returns g c =
    let slots = summary_line (codes "slots") (decimal c.args.slots) in
    let lines = summary_line (codes "lines") (decimal c.args.lines) in
    let steps = summary_line (codes "steps") (decimal c.args.steps) in
    let output = summary_line (codes "output") c.args.output.now in
    c.writes_in_turn.ensures.both slots (lines ++ (steps ++ output)) _ _ _ _ _ _ _ _ _ _ c.in_ok-write_number.ensures
    (c.writes_in_turn.ensures.both lines (steps ++ output) _ _ _ _ _ _ _ _ _ _ c.in_ok-write_number-2.ensures
    (c.writes_in_turn.ensures.both steps output _ _ _ _ _ _ _ _ _ _ c.in_ok-write_number-3.ensures
    c.write_line.ensures))

pub returns-in_err-write_number : goal.returns-in_err-write_number
returns-in_err-write_number g c =
    let slots = summary_line (codes "slots") (decimal c.args.slots) in
    let lines = summary_line (codes "lines") (decimal c.args.lines) in
    let steps = summary_line (codes "steps") (decimal c.args.steps) in
    let output = summary_line (codes "output") c.args.output.now in
    let p = err_from_is_err_and c.from_residual.result c.from_residual.ensures.1 in
    rw (p.1, p.2) (c.writes_in_turn.ensures.cut slots (lines ++ (steps ++ output)) _ _ _ _ _ _ _ c.in_err-write_number.ensures)

pub returns-in_err-write_number-2 : goal.returns-in_err-write_number-2
returns-in_err-write_number-2 g c =
    let slots = summary_line (codes "slots") (decimal c.args.slots) in
    let lines = summary_line (codes "lines") (decimal c.args.lines) in
    let steps = summary_line (codes "steps") (decimal c.args.steps) in
    let output = summary_line (codes "output") c.args.output.now in
    let p = err_from_is_err_and c.from_residual-in_err-write_number-2.result
    c.from_residual-in_err-write_number-2.ensures.1 in
    rw (p.1, p.2) (c.writes_in_turn.ensures.both slots (lines ++ (steps ++ output)) _ _ _ _ _ _ _ _ _ _ c.in_ok-write_number.ensures
    (c.writes_in_turn.ensures.cut lines (steps ++ output) _ _ _ _ _ _ _ c.in_err-write_number-2.ensures))

pub returns-in_err-write_number-3 : goal.returns-in_err-write_number-3
returns-in_err-write_number-3 g c =
    let slots = summary_line (codes "slots") (decimal c.args.slots) in
    let lines = summary_line (codes "lines") (decimal c.args.lines) in
    let steps = summary_line (codes "steps") (decimal c.args.steps) in
    let output = summary_line (codes "output") c.args.output.now in
    let p = err_from_is_err_and c.from_residual-in_err-write_number-3.result
    c.from_residual-in_err-write_number-3.ensures.1 in
    rw (p.1, p.2) (c.writes_in_turn.ensures.both slots (lines ++ (steps ++ output)) _ _ _ _ _ _ _ _ _ _ c.in_ok-write_number.ensures
    (c.writes_in_turn.ensures.both lines (steps ++ output) _ _ _ _ _ _ _ _ _ _ c.in_ok-write_number-2.ensures
    (c.writes_in_turn.ensures.cut steps output _ _ _ _ _ _ _ c.in_err-write_number-3.ensures)))
