use Rattle.std.specs.Prelude.{◌≡◌, refl, ◌<◌, suc, ◌∷◌, Some, slice_get, length}
use Rattle.std.proofs.Common.{arith, ap, sym, ◌∙◌}
use Rattle.template_tree.specs.contracts.node.Node.{the_view}
use Rattle.template_tree.specs.Programs.PlainTree.{forest, roomless_node}
use Rattle.template_tree.specs.Edits.Receipt.{list_room, with_beside}
use Rattle.template_tree.proofs.Lists.ListChanges.{beside_here, level_of, room_of, room_at_end, no_room}
use Rattle.template_tree.proofs.node.Nodes.+insert_at.Goals as goal

pub insert_beside-requires : goal.insert_beside-requires
insert_beside-requires t c =
    omega (arith, c.requires.room, room_at_end c.args.self.now.spare (forest c.args.self.now.items) c.args.k c.args.path.now c.in_default.ensures.cases)

pub returns-in_default : goal.returns-in_default
returns-in_default t c =
    beside_here c.args.side c.args.node (forest c.insert_beside.new.self.items) (forest c.args.self.now.items) c.args.k c.args.path.now
    c.in_default.ensures.cases c.insert_beside.ensures

pub unreachable-requires : goal.unreachable-requires
unreachable-requires t c =
    absurd
    (omega (
      arith,
      c.requires.room,
      no_room c.args.self.now.spare c.args.self.now.items c.args.k c.in-Some.next.now c.args.path.now c.in-Some.rest.now
          c.in-Some.ensures.cases.0 (sym c.in_default-get_mut.ensures.found),
    ))

pub insert_at-requires : goal.insert_at-requires
insert_at-requires t c =
    let way : c.args.path.now ≡ c.in-Some.next.now ∷ c.in-Some.rest.now = c.in-Some.ensures.cases.0 in
    let shorter : length c.args.path.now ≡ suc (length c.in-Some.rest.now) = ap length way in
    let there : slice_get c.args.self.now.items c.args.k ≡ Some (the_view c.there.inside) =
    sym c.in-Some-get_mut.ensures.found ∙ ap Some (sym c.there.view_is)
    in
    let room : 0 < list_room c.there.inside.inner.spare (forest c.there.inside.inner.items) (c.in-Some.next.now ∷ c.in-Some.rest.now) =
    omega (arith, c.requires.room, room_of c.args.self.now.spare c.args.self.now.items c.args.k c.in-Some.next.now c.args.path.now c.in-Some.rest.now (the_view c.there.inside) way there)
    in (omega (arith, shorter, c.decreases), room)

pub returns : goal.returns
returns t c =
    let way : c.args.path.now ≡ c.in-Some.next.now ∷ c.in-Some.rest.now = c.in-Some.ensures.cases.0 in
    let there : slice_get c.args.self.now.items c.args.k ≡ Some (the_view c.there.inside) =
    sym c.in-Some-get_mut.ensures.found ∙ ap Some (sym c.there.view_is)
    in
    level_of (with_beside c.args.side (roomless_node c.args.node)) c.args.self.now.items c.args.k c.in-Some.next.now c.args.path.now
    c.in-Some.rest.now (the_view c.there.inside)
    (the_view
    record {
      slot = c.there.inside.slot;
      kind = c.there.inside.kind;
      elided = c.there.inside.elided;
      parts = c.there.inside.parts;
      inner = c.insert_at.new.self;
    })
    way there record { label = refl; inner = c.insert_at.ensures }
