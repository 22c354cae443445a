use Rattle.std.proofs.Common.{ap, sym, ◌∙◌}
use Rattle.std.specs.Prelude.{option_map}
use Rattle.template_tree.specs.Programs.PlainTree.{roomless_node}
use Rattle.screen_window.proofs.RoomlessPlaces.{map_in}
use Rattle.screen_window.proofs.cursor.stop_node.Goals as goal

pub returns : goal.returns
returns c =
    map_in (λ node. node.now) roomless_node c.node.result
    ∙ ap (option_map roomless_node) c.node.ensures.found
    ∙ sym (c.room_is_not_shown.ensures.nodes c.args.tree.now.items c.args.stop.now.path.items)
