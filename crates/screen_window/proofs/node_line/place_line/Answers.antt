use Rattle.std.proofs.Common.{refl, sym, ◌∙◌}
use Rattle.screen_window.proofs.PlaceLines.{no_line, place_on_path}
use Rattle.screen_window.proofs.node_line.place_line.Goals as goal

pub returns-in_err-path : goal.returns-in_err-path
returns-in_err-path c =
    rw c.from_residual.ensures
    (sym (no_line c.args.place.slot.0 c.args.place.point.0 c.args.tree.now.items (c.in_err-path.ensures.none.0 refl)))

pub returns : goal.returns
returns c =
    let slot = c.args.place.slot.0 in
    c.line_on_path.ensures
    ∙ sym (place_on_path slot c.args.place.point.0 c.args.tree.now.items c.in_ok-path.path.items (c.requires.once slot) c.in_ok-path.ensures.path)
