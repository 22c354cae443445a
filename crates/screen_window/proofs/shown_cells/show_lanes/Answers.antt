use Rattle.std.proofs.Common.{◌≡◌, ◌+◌, ◌++◌, length, take, drop, ap, ◌∙◌, arith}
use Rattle.std.proofs.lemmas.List.{length-map}
use Rattle.std.proofs.lemmas.Simd.{length-chunk, length-put_chunk, take_more_put_chunk}
use Rattle.screen_window.specs.ShownRow.{shown_cell}
use Rattle.screen_window.proofs.shown_cells.show_lanes.Goals as goal

-- 8 numbers are loaded
pub shown_lanes-requires : goal.shown_lanes-requires
shown_lanes-requires c = length-chunk c.args.at 8 c.args.cells.now c.requires.within

pub returns-clause-shown : goal.returns-clause-shown
returns-clause-shown c =
    let line = c.args.line.now in
    let shown = c.shown_lanes.result in
    let loaded = take 8 (drop c.args.at c.args.cells.now) in
    let long : length shown ≡ 8 =
    ap length c.shown_lanes.ensures ∙ length-map loaded shown_cell
    ∙ length-chunk c.args.at 8 c.args.cells.now c.requires.within in
    take_more_put_chunk c.args.column line shown (c.args.column + 8) (omega (arith, long)) c.requires.room
    ∙ ap (λ l. take c.args.column line ++ l) c.shown_lanes.ensures

pub returns-clause-width : goal.returns-clause-width
returns-clause-width c = length-put_chunk c.args.column c.args.line.now c.shown_lanes.result
