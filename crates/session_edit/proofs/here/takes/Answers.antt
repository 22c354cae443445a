use Rattle.std.specs.Prelude.{false}
use Rattle.std.specs.Option.{option_map_or}
use Rattle.std.proofs.Common.{ap, sym, ◌∙◌}
use Rattle.template_tree.specs.Positions.Stop.{plain_stop}
use Rattle.session_edit.specs.Here.{can_take}
use Rattle.session_edit.proofs.StopNodes.{takes_is}
use Rattle.session_edit.proofs.here.takes.Goals as goal

pub returns-in_default : goal.returns-in_default
returns-in_default c =
    ap (λ found. option_map_or (can_take c.args.at.now.part) found false) c.in_default.ensures.found
    ∙ sym (takes_is c.room_laws.ensures c.args.tree.now (plain_stop c.args.at.now))

pub returns : goal.returns
returns c =
    c.can_take.ensures
    ∙ (ap (λ found. option_map_or (can_take c.args.at.now.part) found false) c.in-Some.ensures.found
    ∙ sym (takes_is c.room_laws.ensures c.args.tree.now (plain_stop c.args.at.now)))
