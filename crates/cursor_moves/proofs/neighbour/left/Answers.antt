use Rattle.std.specs.Prelude.{Some, None}
use Rattle.template_tree.specs.Positions.Stop.{plain_stop}
use Rattle.cursor_moves.proofs.Stops.AnsweredStops.{last_stands, left_from_first, left_from_node, left_from_part, previous_there, stop_visible}
use Rattle.cursor_moves.proofs.Stops.ChosenStops.{goes_left}
use Rattle.cursor_moves.proofs.Stops.PreviousStops.{next_visible}
use Rattle.cursor_moves.proofs.neighbour.left.Goals as goal

pub returns-in-Some-clause-moved : goal.returns-in-Some-clause-moved
returns-in-Some-clause-moved c =
    let items = c.args.tree.now.items in
    let stop = plain_stop c.args.at.now in
    goes_left c.room_is_not_shown.ensures.stops items stop _
    (left_from_part items stop c.in-Some.part c.copy_path.result.items c.checked_sub.result
    ((c.room_is_not_shown.ensures.standing items stop).0 c.requires.stop) c.in-Some.is c.copy_path.ensures c.checked_sub.ensures)

pub previous_node-requires-clause-visible : goal.previous_node-requires-clause-visible
previous_node-requires-clause-visible c =
    let items = c.args.tree.now.items in
    let stop = plain_stop c.args.at.now in
    stop_visible items stop ((c.room_is_not_shown.ensures.standing items stop).0 c.requires.stop)

pub returns-in_default-previous_node-clause-moved : goal.returns-in_default-previous_node-clause-moved
returns-in_default-previous_node-clause-moved c =
    let items = c.args.tree.now.items in
    let stop = plain_stop c.args.at.now in
    goes_left c.room_is_not_shown.ensures.stops items stop None
    (left_from_first items stop ((c.room_is_not_shown.ensures.standing items stop).0 c.requires.stop) c.in_default.is
    c.in_default-previous_node.ensures.none)

pub last_of_node-requires-clause-there : goal.last_of_node-requires-clause-there
last_of_node-requires-clause-there c =
    previous_there c.args.tree.now.items c.in-Some-previous_node.path.items c.args.at.now.path.items c.in-Some-previous_node.ensures.next

pub returns-clause-moved : goal.returns-clause-moved
returns-clause-moved c =
    let items = c.args.tree.now.items in
    let stop = plain_stop c.args.at.now in
    let to = plain_stop c.last_of_node.result in
    goes_left c.room_is_not_shown.ensures.stops items stop (Some to)
    (left_from_node items stop c.in-Some-previous_node.path.items to ((c.room_is_not_shown.ensures.standing items stop).0 c.requires.stop)
    c.in_default.is c.in-Some-previous_node.ensures.next c.last_of_node.ensures)

pub returns-clause-stop : goal.returns-clause-stop
returns-clause-stop c =
    let items = c.args.tree.now.items in
    let way = c.in-Some-previous_node.path.items in
    let previous = next_visible items way c.args.at.now.path.items c.in-Some-previous_node.ensures.next in
    (c.room_is_not_shown.ensures.standing items (plain_stop c.last_of_node.result)).1
    (last_stands items way previous.0 (plain_stop c.last_of_node.result) previous.1 c.last_of_node.ensures)
