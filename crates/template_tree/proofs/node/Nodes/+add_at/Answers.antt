use Rattle.std.specs.Prelude.{◌≡◌, refl, suc, ◌∷◌, [], Some, slice_get, length}
use Rattle.std.proofs.Common.{arith, ap, sym, ◌∙◌}
use Rattle.template_tree.specs.contracts.node.Node.{the_view}
use Rattle.template_tree.specs.Programs.PlainTree.{forest, roomless_node}
use Rattle.template_tree.specs.Edits.Edit.{edit_at}
use Rattle.template_tree.specs.Edits.Receipt.{with_beside}
use Rattle.template_tree.proofs.Lists.ListChanges.{beside_here, level_ok, err_same, stands_below, stands_in_item}
use Rattle.template_tree.proofs.node.Nodes.+add_at.Goals as goal

pub returns-in_default-clause-added : goal.returns-in_default-clause-added
returns-in_default-clause-added t c =
    beside_here c.args.side c.args.node (forest c.insert_beside.new.self.items) (forest c.args.self.now.items) c.args.k c.args.path.now
    c.in_default.ensures.cases
    (c.insert_beside.ensures
    ∙ ap (λ items. edit_at (with_beside c.args.side c.args.node) (c.args.k ∷ []) (forest items)) c.reserve_one.ensures.items)

pub unreachable-requires : goal.unreachable-requires
unreachable-requires t c = stands_in_item c.args.self.now.items c.args.k c.args.path.now (sym c.in_default-get_mut.ensures.found) c.requires.there

pub add_at-requires : goal.add_at-requires
add_at-requires t c =
    let way : c.args.path.now ≡ c.in-Some.next.now ∷ c.in-Some.rest.now = c.in-Some.ensures.cases.0 in
    let shorter : length c.args.path.now ≡ suc (length c.in-Some.rest.now) = ap length way in
    let there : slice_get c.args.self.now.items c.args.k ≡ Some (the_view c.there.inside) =
    sym c.in-Some-get_mut.ensures.found ∙ ap Some (sym c.there.view_is) in (
      omega (arith, shorter, c.decreases),
      stands_below c.args.self.now.items c.args.k c.in-Some.next.now c.args.path.now c.in-Some.rest.now (the_view c.there.inside) way there c.requires.there,
    )

pub returns-clause-added : goal.returns-clause-added
returns-clause-added t c =
    let way : c.args.path.now ≡ c.in-Some.next.now ∷ c.in-Some.rest.now = c.in-Some.ensures.cases.0 in
    let there : slice_get c.args.self.now.items c.args.k ≡ Some (the_view c.there.inside) =
    sym c.in-Some-get_mut.ensures.found ∙ ap Some (sym c.there.view_is)
    in
    level_ok c.add_at.result (with_beside c.args.side (roomless_node c.args.node)) c.args.self.now.items c.args.k c.in-Some.next.now
    c.args.path.now c.in-Some.rest.now (the_view c.there.inside)
    (the_view
    record {
      slot = c.there.inside.slot;
      kind = c.there.inside.kind;
      elided = c.there.inside.elided;
      parts = c.there.inside.parts;
      inner = c.add_at.new.self;
    })
    way there refl c.add_at.ensures.added

pub returns-clause-refused : goal.returns-clause-refused
returns-clause-refused t c =
    let there : slice_get c.args.self.now.items c.args.k ≡ Some (the_view c.there.inside) =
    sym c.in-Some-get_mut.ensures.found ∙ ap Some (sym c.there.view_is)
    in
    err_same c.add_at.result c.args.self.now c.args.k (the_view c.there.inside).label c.there.inside.inner c.add_at.new.self
    (the_view c.there.inside) there refl c.add_at.ensures.refused
