use Rattle.std.proofs.Common.{sym, refl}
use Rattle.suspend_state.proofs.NodeSites.{start_found, start_none}
use Rattle.suspend_state.proofs.start.start_of.Goals as goal

pub returns-in_default : goal.returns-in_default
returns-in_default c = start_none c.args.tree.now.items c.args.slot.0 (c.in_default.ensures.none.0 refl)

pub returns : goal.returns
returns c =
    start_found c.args.tree.now c.in-Some.path.items c.args.slot.0 c.begin_slot.result.0 c.in-Some-node.node.now c.requires.tree c.in-Some.ensures.path
    (sym c.in-Some-node.ensures.found) c.begin_slot.ensures
