use Rattle.template_tree.specs.Positions.Stop.{plain_stop}
use Rattle.cursor_moves.specs.Move.{moved_to}
use Rattle.cursor_moves.proofs.Stops.AnsweredStops.{stop_visible, up_moved, up_stands}
use Rattle.cursor_moves.proofs.Stops.ChosenStops.{goes_up, stands_without_room}
use Rattle.cursor_moves.proofs.line.up.Goals as goal

pub previous_node-requires-clause-visible : goal.previous_node-requires-clause-visible
previous_node-requires-clause-visible c =
    let items = c.args.tree.now.items in
    let stop = plain_stop c.args.at.now in
    stop_visible items stop ((c.room_is_not_shown.ensures.standing items stop).0 c.requires.stop)

pub returns-clause-moved : goal.returns-clause-moved
returns-clause-moved c =
    let items = c.args.tree.now.items in
    let stop = plain_stop c.args.at.now in
    goes_up c.room_is_not_shown.ensures.stops items stop (moved_to c.to_node.result)
    (up_moved (λ path. path.items) items stop c.previous_node.result (moved_to c.to_node.result)
    ((c.room_is_not_shown.ensures.standing items stop).0 c.requires.stop) c.previous_node.ensures.none c.previous_node.ensures.next c.to_node.ensures)

pub returns-clause-stop : goal.returns-clause-stop
returns-clause-stop c =
    let items = c.args.tree.now.items in
    stands_without_room c.room_is_not_shown.ensures.standing items (moved_to c.to_node.result)
    (up_stands (λ path. path.items) items c.args.at.now.path.items c.previous_node.result (moved_to c.to_node.result)
    c.previous_node.ensures.next c.to_node.ensures)
