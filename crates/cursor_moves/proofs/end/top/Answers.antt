use Rattle.std.specs.Prelude.{◌++◌, ◌∷◌, []}
use Rattle.std.proofs.Common.{ap, ◌∙◌}
use Rattle.template_tree.specs.Positions.Stop.{node_stop}
use Rattle.cursor_moves.proofs.Stops.ChosenStops.{first_is}
use Rattle.cursor_moves.proofs.Stops.EndStops.{first_listed, first_stands}
use Rattle.cursor_moves.proofs.end.top.Goals as goal

pub returns-clause-first : goal.returns-clause-first
returns-clause-first c =
    first_is c.room_is_not_shown.ensures.stops c.args.tree.now.items (node_stop c.push.new.self.items)
    (first_listed c.args.tree.now.items c.push.new.self.items c.requires.tree.program
    (c.push.ensures.items ∙ ap (λ way. way ++ 0 ∷ []) c.new-path.ensures))

pub returns-clause-stop : goal.returns-clause-stop
returns-clause-stop c =
    (c.room_is_not_shown.ensures.standing c.args.tree.now.items (node_stop c.push.new.self.items)).1
    (first_stands c.args.tree.now.items c.push.new.self.items c.requires.tree.program
    (c.push.ensures.items ∙ ap (λ way. way ++ 0 ∷ []) c.new-path.ensures))
