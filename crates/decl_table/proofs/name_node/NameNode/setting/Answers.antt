use Rattle.std.specs.Prelude.{refl}
use Rattle.std.proofs.Common.{arith, sym}
use Rattle.decl_table.proofs.MadeNames.{few_parts}
use Rattle.decl_table.proofs.EditedNodes.{edited_set}
use Rattle.decl_table.proofs.PreparedNames.{no_node, prepared_set}
use Rattle.decl_table.proofs.name_node.NameNode.setting.Goals as goal

pub unreachable-requires : goal.unreachable-requires
unreachable-requires c = absurd (omega (arith, c.in_default.ensures.none.0 refl, c.requires.before.stands))

pub unreachable-requires-in_default-node : goal.unreachable-requires-in_default-node
unreachable-requires-in_default-node c =
    no_node c.args.tree.now.items c.in-Some.path.items c.args.slot.0 c.in-Some.ensures.path (sym c.in_default-node.ensures.found)

pub label_of-requires : goal.label_of-requires
label_of-requires c = record { few = few_parts c.in-Some-node.node.now c.in-Some-node.ensures.subtree }

pub returns-clause-after : goal.returns-clause-after
returns-clause-after c =
    (prepared_set c.slot_edit_is_path_edit.ensures c.room_is_not_shown.ensures.nodes c.room_is_not_shown.ensures.slots c.args.self.now.inner
    c.args.slot.0 c.args.part c.args.tree.now c.requires.tree c.requires.before c.in-Some.path.items c.in-Some-node.node.now c.in-Some.ensures.path
    (sym c.in-Some-node.ensures.found) c.in_ok-label.label c.in_ok-label.ensures.label).made

pub returns-clause-there : goal.returns-clause-there
returns-clause-there c =
    (prepared_set c.slot_edit_is_path_edit.ensures c.room_is_not_shown.ensures.nodes c.room_is_not_shown.ensures.slots c.args.self.now.inner
    c.args.slot.0 c.args.part c.args.tree.now c.requires.tree c.requires.before c.in-Some.path.items c.in-Some-node.node.now c.in-Some.ensures.path
    (sym c.in-Some-node.ensures.found) c.in_ok-label.label c.in_ok-label.ensures.label).there

pub returns-clause-edit : goal.returns-clause-edit
returns-clause-edit c =
    λ before.
    edited_set c.room_is_not_shown.ensures.slots c.args.self.now.inner c.args.slot.0 c.args.part c.args.tree.now c.requires.tree before
    c.in-Some.path.items c.in-Some-node.node.now c.in-Some.ensures.path (sym c.in-Some-node.ensures.found) c.in_ok-label.label
    c.in_ok-label.ensures.label
