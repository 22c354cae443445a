use Rattle.std.specs.Option.{option_map_or}
use Rattle.std.proofs.Common.{ap, ◌∙◌}
use Rattle.template_tree.specs.Positions.Stop.{plain_stop}
use Rattle.session_edit.specs.Cursor.{stop_or_next}
use Rattle.session_edit.proofs.next_stop.onward.Goals as goal

pub returns-in-Moved-clause-onward : goal.returns-in-Moved-clause-onward
returns-in-Moved-clause-onward c =
    c.next_within.ensures
    ∙ ap (λ to. option_map_or (stop_or_next (plain_stop c.args.at.now)) to (plain_stop c.args.at.now)) c.in-Moved.ensures.moved

pub returns-in-AtEdge-clause-onward : goal.returns-in-AtEdge-clause-onward
returns-in-AtEdge-clause-onward c =
    c.copy_stop.ensures
    ∙ ap (λ to. option_map_or (stop_or_next (plain_stop c.args.at.now)) to (plain_stop c.args.at.now)) c.in-AtEdge.ensures.moved
