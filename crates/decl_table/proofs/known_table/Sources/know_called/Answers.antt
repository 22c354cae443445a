use Rattle.std.proofs.Common.{[], Some, None, refl}
use Rattle.decl_table.specs.Knowledge.{parameter_names}
use Rattle.decl_table.proofs.AddedUses.{then_ok}
use Rattle.decl_table.proofs.CalledParameters.{knows_bare, knows_called, knows_found, knows_uncalled, node_missing, parameters_nowhere}
use Rattle.decl_table.proofs.KnownTables.{learns_nothing}
use Rattle.decl_table.proofs.KeptOwn.{keeps_all}
use Rattle.decl_table.proofs.known_table.Sources.know_called.Goals as goal

pub returns-in_default-clause-learns : goal.returns-in_default-clause-learns
returns-in_default-clause-learns c = learns_nothing c.args.self.now.tree.now.items c.args.table.now

pub returns-in_default-clause-knows : goal.returns-in_default-clause-knows
returns-in_default-clause-knows c =
    knows_uncalled c.args.self.now.tree.now.items c.args.table.now c.args.name.now c.in_default.ensures

pub returns-in_default-path_of-clause-learns : goal.returns-in_default-path_of-clause-learns
returns-in_default-path_of-clause-learns c = learns_nothing c.args.self.now.tree.now.items c.args.table.now

pub returns-in_default-path_of-clause-knows : goal.returns-in_default-path_of-clause-knows
returns-in_default-path_of-clause-knows c =
    let program = c.args.self.now.tree.now.items in
    let slot = c.in-Some.slot.0 in
    knows_called program c.args.table.now c.args.name.now slot c.in-Some.ensures
    (knows_bare program c.args.table.now slot (parameter_names program slot)
    (parameters_nowhere program slot (c.in_default-path_of.ensures.none.0 refl)))

pub returns-in_default-node-clause-learns : goal.returns-in_default-node-clause-learns
returns-in_default-node-clause-learns c = learns_nothing c.args.self.now.tree.now.items c.args.table.now

pub returns-in_default-node-clause-knows : goal.returns-in_default-node-clause-knows
returns-in_default-node-clause-knows c =
    absurd
    (node_missing c.args.self.now.tree.now.items c.in-Some-path_of.path.items c.in-Some.slot.0 c.in-Some-path_of.ensures.path
    c.in_default-node.ensures.found)

pub returns-in_default-heading_parameters-clause-learns : goal.returns-in_default-heading_parameters-clause-learns
returns-in_default-heading_parameters-clause-learns c = learns_nothing c.args.self.now.tree.now.items c.args.table.now

pub returns-in_default-heading_parameters-clause-knows : goal.returns-in_default-heading_parameters-clause-knows
returns-in_default-heading_parameters-clause-knows c =
    let program = c.args.self.now.tree.now.items in
    let slot = c.in-Some.slot.0 in
    knows_found program c.args.table.now c.args.name.now slot c.in-Some-path_of.path.items c.in-Some-node.called.now c.in-Some.ensures
    c.in-Some-path_of.ensures.path c.in-Some-node.ensures.found (c.requires.tree.once slot) None c.in_default-heading_parameters.ensures
    (knows_bare program c.args.table.now slot [] refl)

pub returns-clause-knows : goal.returns-clause-knows
returns-clause-knows c =
    let program = c.args.self.now.tree.now.items in
    let slot = c.in-Some.slot.0 in
    then_ok c.know_items.result
    (knows_found program c.know_items.new.table c.args.name.now slot c.in-Some-path_of.path.items c.in-Some-node.called.now c.in-Some.ensures
    c.in-Some-path_of.ensures.path c.in-Some-node.ensures.found (c.requires.tree.once slot)
    (Some c.in-Some-heading_parameters.parameters.now) c.in-Some-heading_parameters.ensures)
    c.know_items.ensures.knows

pub returns-in_default-clause-own : goal.returns-in_default-clause-own
returns-in_default-clause-own c = keeps_all c.args.self.now.items c.args.table.now

pub returns-in_default-path_of-clause-own : goal.returns-in_default-path_of-clause-own
returns-in_default-path_of-clause-own c = keeps_all c.args.self.now.items c.args.table.now

pub returns-in_default-node-clause-own : goal.returns-in_default-node-clause-own
returns-in_default-node-clause-own c = keeps_all c.args.self.now.items c.args.table.now

pub returns-in_default-heading_parameters-clause-own : goal.returns-in_default-heading_parameters-clause-own
returns-in_default-heading_parameters-clause-own c = keeps_all c.args.self.now.items c.args.table.now
