-- The next stop is the next part of the cursor's node, or else the next node itself: so the visible stops are listed,
-- of the tree without room as of that with it. Both are visible, since the node is, and the part is one that is a stop.
use Rattle.std.specs.Prelude.{Some, None, Option, ℕ}
use Rattle.std.proofs.Common.{ap, sym, ◌∙◌, subst}
use Rattle.template_tree.specs.Positions.Stop.{MayStand, part_stops, plain_stop}
use Rattle.cursor_moves.specs.Move.{moved_to}
use Rattle.cursor_moves.specs.Private.Number.{next_number}
use Rattle.cursor_moves.specs.Private.NextPath.{next_of}
use Rattle.cursor_moves.proofs.Nodes.NextPaths.{not_missing, visible_is}
use Rattle.cursor_moves.proofs.Stops.AnsweredStops.{by_paths, next_stands, part_stands, right_moved, stands_at, stop_visible}
use Rattle.cursor_moves.proofs.Stops.ChosenStops.{goes_right, stands_without_room}
use Rattle.cursor_moves.proofs.neighbour.right.Goals as goal

pub returns-in_default-clause-moved : goal.returns-in_default-clause-moved
returns-in_default-clause-moved c =
    let items = c.args.tree.now.items in
    let stop = plain_stop c.args.at.now in
    let h = (c.room_is_not_shown.ensures.standing items stop).0 c.requires.stop in
    absurd (not_missing items stop.path (stop_visible items stop h) c.in_default.ensures.found)

pub next_part-requires : goal.next_part-requires
next_part-requires c =
    let items = c.args.tree.now.items in
    let stop = plain_stop c.args.at.now in
    let h = (c.room_is_not_shown.ensures.standing items stop).0 c.requires.stop in
    let visible = visible_is items stop.path c.in-Some.node.now (stop_visible items stop h) c.in-Some.ensures.found in
    subst (MayStand stop.part) (sym c.kind.ensures) (stands_at items stop c.in-Some.node.now h visible)

pub returns-in-Some-next_part-clause-moved : goal.returns-in-Some-next_part-clause-moved
returns-in-Some-next_part-clause-moved c =
    let items = c.args.tree.now.items in
    let stop = plain_stop c.args.at.now in
    let part : Option ℕ = Some c.in-Some-next_part.part in
    let h = (c.room_is_not_shown.ensures.standing items stop).0 c.requires.stop in
    goes_right c.room_is_not_shown.ensures.stops items stop (Some record { path = c.copy_path.result.items; part = part })
    (right_moved items stop c.in-Some.node.now part _ h c.in-Some.ensures.found
    (c.in-Some-next_part.ensures ∙ ap (λ kind. next_number (part_stops kind) stop.part) c.kind.ensures)
    (ap (λ way. Some record { path = way; part = part }) c.copy_path.ensures))

pub returns-in-Some-next_part-clause-stop : goal.returns-in-Some-next_part-clause-stop
returns-in-Some-next_part-clause-stop c =
    let items = c.args.tree.now.items in
    let stop = plain_stop c.args.at.now in
    let h = (c.room_is_not_shown.ensures.standing items stop).0 c.requires.stop in
    let part : Option ℕ = Some c.in-Some-next_part.part in
    (c.room_is_not_shown.ensures.standing items record { path = c.copy_path.result.items; part = part }).1
    (part_stands items stop c.in-Some.node.now c.copy_path.result.items c.in-Some-next_part.part h c.in-Some.ensures.found
    c.copy_path.ensures (c.in-Some-next_part.ensures ∙ ap (λ kind. next_number (part_stops kind) stop.part) c.kind.ensures))

pub next_node-requires-clause-visible : goal.next_node-requires-clause-visible
next_node-requires-clause-visible c =
    let items = c.args.tree.now.items in
    let stop = plain_stop c.args.at.now in
    stop_visible items stop ((c.room_is_not_shown.ensures.standing items stop).0 c.requires.stop)

pub returns-clause-moved : goal.returns-clause-moved
returns-clause-moved c =
    let items = c.args.tree.now.items in
    let stop = plain_stop c.args.at.now in
    let h = (c.room_is_not_shown.ensures.standing items stop).0 c.requires.stop in
    goes_right c.room_is_not_shown.ensures.stops items stop (moved_to c.to_node.result)
    (right_moved items stop c.in-Some.node.now None (moved_to c.to_node.result) h c.in-Some.ensures.found
    (c.in_default-next_part.ensures ∙ ap (λ kind. next_number (part_stops kind) stop.part) c.kind.ensures)
    (by_paths (λ path. path.items) c.next_node.result (next_of items stop.path) (moved_to c.to_node.result) c.next_node.ensures c.to_node.ensures))

pub returns-clause-stop : goal.returns-clause-stop
returns-clause-stop c =
    let items = c.args.tree.now.items in
    let stop = plain_stop c.args.at.now in
    stands_without_room c.room_is_not_shown.ensures.standing items (moved_to c.to_node.result)
    (next_stands items stop.path (moved_to c.to_node.result)
    (by_paths (λ path. path.items) c.next_node.result (next_of items stop.path) (moved_to c.to_node.result) c.next_node.ensures c.to_node.ensures))
