use Rattle.std.proofs.Common.{ap, sym, ◌∙◌}
use Rattle.template_tree.specs.Programs.PlainTree.{roomless}
use Rattle.screen_window.specs.Window.{run_line}
use Rattle.screen_window.proofs.RoomlessPlaces.{place_roomless}
use Rattle.screen_window.proofs.composing.run_line.Goals as goal

-- the place's line is that without the room of lists
pub returns : goal.returns
returns c =
    c.place_line.ensures
    ∙ sym (place_roomless c.in_ok-place.field-0.slot.0 c.in_ok-place.field-0.point.0 c.args.tree.now.items)
    ∙ ap (run_line (roomless c.args.tree.now.items)) (sym c.in_ok-place.was)
