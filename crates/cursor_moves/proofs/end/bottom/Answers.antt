use Rattle.std.specs.Prelude.{◌++◌, ◌∷◌, []}
use Rattle.std.proofs.Common.{ap, ◌∙◌}
use Rattle.template_tree.specs.Positions.Stop.{plain_stop}
use Rattle.cursor_moves.proofs.Stops.AnsweredStops.{last_stands}
use Rattle.cursor_moves.proofs.Stops.ChosenStops.{last_is}
use Rattle.cursor_moves.proofs.Stops.EndStops.{IsEnd, end_at, end_there, last_listed}
use Rattle.cursor_moves.proofs.end.bottom.Goals as goal

-- the node at which the way ends is the last one
end : (c : goal.After-push_last) → IsEnd c.args.tree.now.items c.push_last.new.path.items
end c =
    let last = c.push_last.ensures in
    end_at c.args.tree.now.items c.procedures.result c.push.new.self.items c.push_last.new.path.items last.0 c.procedures.ensures
    (c.push.ensures.items ∙ ap (λ way. way ++ c.procedures.result ∷ []) c.new-path.ensures) last.1 last.2

pub last_of_node-requires-clause-there : goal.last_of_node-requires-clause-there
last_of_node-requires-clause-there c = end_there c.args.tree.now.items c.push_last.new.path.items (end c)

pub returns-clause-last : goal.returns-clause-last
returns-clause-last c =
    let items = c.args.tree.now.items in
    let e = end_at items c.procedures.result c.push.new.self.items c.push_last.new.path.items c.push_last.ensures.0 c.procedures.ensures
    (c.push.ensures.items ∙ ap (λ way. way ++ c.procedures.result ∷ []) c.new-path.ensures) c.push_last.ensures.1 c.push_last.ensures.2 in
    last_is c.room_is_not_shown.ensures.stops items (plain_stop c.last_of_node.result)
    (last_listed items c.push_last.new.path.items (plain_stop c.last_of_node.result) e c.last_of_node.ensures)

pub returns-clause-stop : goal.returns-clause-stop
returns-clause-stop c =
    let items = c.args.tree.now.items in
    let e = end_at items c.procedures.result c.push.new.self.items c.push_last.new.path.items c.push_last.ensures.0 c.procedures.ensures
    (c.push.ensures.items ∙ ap (λ way. way ++ c.procedures.result ∷ []) c.new-path.ensures) c.push_last.ensures.1 c.push_last.ensures.2 in
    (c.room_is_not_shown.ensures.standing items (plain_stop c.last_of_node.result)).1
    (last_stands items c.push_last.new.path.items e.node (plain_stop c.last_of_node.result) e.visible c.last_of_node.ensures)
