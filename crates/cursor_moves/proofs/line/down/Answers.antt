use Rattle.template_tree.specs.Positions.Stop.{plain_stop}
use Rattle.cursor_moves.specs.Private.NextPath.{next_of}
use Rattle.cursor_moves.specs.Move.{moved_to}
use Rattle.cursor_moves.proofs.Stops.AnsweredStops.{by_paths, down_moved, next_stands, stop_visible}
use Rattle.cursor_moves.proofs.Stops.ChosenStops.{goes_down, stands_without_room}
use Rattle.cursor_moves.proofs.line.down.Goals as goal

pub next_node-requires-clause-visible : goal.next_node-requires-clause-visible
next_node-requires-clause-visible c =
    let items = c.args.tree.now.items in
    let stop = plain_stop c.args.at.now in
    stop_visible items stop ((c.room_is_not_shown.ensures.standing items stop).0 c.requires.stop)

pub returns-clause-moved : goal.returns-clause-moved
returns-clause-moved c =
    let items = c.args.tree.now.items in
    let stop = plain_stop c.args.at.now in
    goes_down c.room_is_not_shown.ensures.stops items stop (moved_to c.to_node.result)
    (down_moved items stop (moved_to c.to_node.result) ((c.room_is_not_shown.ensures.standing items stop).0 c.requires.stop)
    (by_paths (λ path. path.items) c.next_node.result (next_of items stop.path) (moved_to c.to_node.result) c.next_node.ensures c.to_node.ensures))

pub returns-clause-stop : goal.returns-clause-stop
returns-clause-stop c =
    let items = c.args.tree.now.items in
    let stop = plain_stop c.args.at.now in
    stands_without_room c.room_is_not_shown.ensures.standing items (moved_to c.to_node.result)
    (next_stands items stop.path (moved_to c.to_node.result)
    (by_paths (λ path. path.items) c.next_node.result (next_of items stop.path) (moved_to c.to_node.result) c.next_node.ensures c.to_node.ensures))
