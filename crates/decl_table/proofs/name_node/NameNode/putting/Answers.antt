use Rattle.std.specs.Prelude.{refl}
use Rattle.std.proofs.Common.{arith, sym}
use Rattle.decl_table.proofs.EditedNodes.{edited_put}
use Rattle.decl_table.proofs.PreparedNames.{no_node, prepared_put}
use Rattle.decl_table.proofs.name_node.NameNode.putting.Goals as goal

pub unreachable-requires : goal.unreachable-requires
unreachable-requires c = absurd (omega (arith, c.in_default.ensures.none.0 refl, c.requires.before.stands))

pub unreachable-requires-in_default-node : goal.unreachable-requires-in_default-node
unreachable-requires-in_default-node c =
    no_node c.args.tree.now.items c.in-Some.path.items c.args.slot.0 c.in-Some.ensures.path (sym c.in_default-node.ensures.found)

pub of-requires-clause-few : goal.of-requires-clause-few
of-requires-clause-few c = omega (arith, c.in-Some-node.ensures.few)

pub returns-clause-after : goal.returns-clause-after
returns-clause-after c =
    (prepared_put c.slot_edit_is_path_edit.ensures c.room_is_not_shown.ensures.nodes c.room_is_not_shown.ensures.slots c.args.self.now.inner
    c.args.slot.0 c.args.tree.now c.requires.tree c.requires.before c.in-Some.path.items c.in-Some-node.node.now c.in-Some.ensures.path
    (sym c.in-Some-node.ensures.found) c.in_ok-item.item c.in_ok-item.ensures).made

pub returns-clause-there : goal.returns-clause-there
returns-clause-there c =
    (prepared_put c.slot_edit_is_path_edit.ensures c.room_is_not_shown.ensures.nodes c.room_is_not_shown.ensures.slots c.args.self.now.inner
    c.args.slot.0 c.args.tree.now c.requires.tree c.requires.before c.in-Some.path.items c.in-Some-node.node.now c.in-Some.ensures.path
    (sym c.in-Some-node.ensures.found) c.in_ok-item.item c.in_ok-item.ensures).there

pub returns-clause-edit : goal.returns-clause-edit
returns-clause-edit c =
    λ before.
    edited_put c.slot_edit_is_path_edit.ensures c.room_is_not_shown.ensures.slots c.args.self.now.inner c.args.slot.0 c.args.tree.now c.requires.tree
    before c.in-Some.path.items c.in-Some-node.node.now c.in-Some.ensures.path (sym c.in-Some-node.ensures.found) c.in_ok-item.item
    c.in_ok-item.ensures
