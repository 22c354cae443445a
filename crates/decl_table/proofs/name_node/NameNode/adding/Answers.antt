use Rattle.std.specs.Prelude.{◌≡◌, refl, ◌∷◌}
use Rattle.std.proofs.Common.{arith, ap, sym, ◌∙◌}
use Rattle.decl_table.specs.Private.NamePaths.{count_beside}
use Rattle.decl_table.proofs.FoundNames.{beside_few}
use Rattle.decl_table.proofs.MendedNameLists.{empty}
use Rattle.decl_table.proofs.EditedNodes.{edited_add}
use Rattle.decl_table.proofs.PreparedNames.{before_few, no_node, no_path, prepared_add}
use Rattle.decl_table.proofs.name_node.NameNode.adding.Goals as goal

pub unreachable-requires : goal.unreachable-requires
unreachable-requires c = absurd (omega (arith, c.in_default.ensures.none.0 refl, c.requires.before.stands))

pub unreachable-requires-in_default-node : goal.unreachable-requires-in_default-node
unreachable-requires-in_default-node c =
    no_node c.args.tree.now.items c.in-Some.path.items c.args.slot.0 c.in-Some.ensures.path (sym c.in_default-node.ensures.found)

pub unreachable-requires-in_default-split_first : goal.unreachable-requires-in_default-split_first
unreachable-requires-in_default-split_first c =
    no_path c.args.tree.now.items c.in-Some.path.items c.args.slot.0 c.in-Some.ensures.path
    (sym c.deref.ensures.0 ∙ empty c.deref.result.now c.in_default-split_first.ensures.cases)

pub overflow_add-nodes : goal.overflow_add-nodes
overflow_add-nodes c =
    omega (
      arith,
      c.count_beside-nodes.ensures,
      beside_few c.args.self.now.inner (c.in-Some-split_first.k.now ∷ c.in-Some-split_first.rest.now),
      before_few _ c.args.slot.0 c.args.self.now.inner c.args.tree.now c.requires.before,
    )

pub with_room-requires-clause-few : goal.with_room-requires-clause-few
with_room-requires-clause-few c = omega (arith, c.in-Some-node.ensures.few)

pub returns-clause-after : goal.returns-clause-after
returns-clause-after c =
    let inner = c.args.self.now.inner in
    let way : c.in-Some.path.items ≡ c.in-Some-split_first.k.now ∷ c.in-Some-split_first.rest.now =
    sym c.deref.ensures.0 ∙ c.in-Some-split_first.ensures.cases.0 in
    let fits = c.in-Ok.ensures.room in
    (prepared_add c.slot_edit_is_path_edit.ensures inner c.args.slot.0 c.args.tree.now c.requires.tree c.requires.before c.in-Some.path.items
    c.in-Some-node.node.now c.in-Some.ensures.path (sym c.in-Some-node.ensures.found) c.in-Ok.item c.in-Ok.room c.in-Ok.ensures.item
    (omega (arith, fits, c.count_beside-nodes.ensures, ap (λ p. count_beside p inner) way))).made

pub returns-clause-there : goal.returns-clause-there
returns-clause-there c =
    let inner = c.args.self.now.inner in
    let way : c.in-Some.path.items ≡ c.in-Some-split_first.k.now ∷ c.in-Some-split_first.rest.now =
    sym c.deref.ensures.0 ∙ c.in-Some-split_first.ensures.cases.0 in
    let fits = c.in-Ok.ensures.room in
    (prepared_add c.slot_edit_is_path_edit.ensures inner c.args.slot.0 c.args.tree.now c.requires.tree c.requires.before c.in-Some.path.items
    c.in-Some-node.node.now c.in-Some.ensures.path (sym c.in-Some-node.ensures.found) c.in-Ok.item c.in-Ok.room c.in-Ok.ensures.item
    (omega (arith, fits, c.count_beside-nodes.ensures, ap (λ p. count_beside p inner) way))).there

pub returns-clause-edit : goal.returns-clause-edit
returns-clause-edit c =
    λ before.
    edited_add c.args.self.now.inner c.args.slot.0 c.args.tree.now before c.in-Some.path.items c.in-Some-node.node.now c.in-Some.ensures.path
    (sym c.in-Some-node.ensures.found) c.in-Ok.item c.in-Ok.room c.in-Ok.ensures.item
