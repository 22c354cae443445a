use Rattle.std.specs.Prelude.{◌≡◌, refl, suc, ◌∷◌, Some, slice_get, length}
use Rattle.std.proofs.Common.{arith, ap, sym, ◌∙◌}
use Rattle.template_tree.specs.contracts.node.Node.{the_view}
use Rattle.template_tree.specs.Programs.PlainTree.{Forest, PlainNode, forest, roomless}
use Rattle.template_tree.specs.Edits.Receipt.{list_room}
use Rattle.template_tree.proofs.Lists.ListChanges.{err_same, room_alone, room_at_end, room_of, room_up, room_where, stands_below, stands_in_item}
use Rattle.template_tree.proofs.node.Nodes.+reserve_at.Goals as goal

pub returns-in_default-clause-room : goal.returns-in_default-clause-room
returns-in_default-clause-room t c =
    room_where c.reserve_one.result _ c.reserve_one.new.self.spare
    (room_at_end c.reserve_one.new.self.spare (forest c.reserve_one.new.self.items) c.args.k c.args.path.now c.in_default.ensures.cases)
    c.reserve_one.ensures.room

pub returns-in_default-clause-same : goal.returns-in_default-clause-same
returns-in_default-clause-same t c = ap (λ items. roomless (forest items)) c.reserve_one.ensures.items

pub returns-in_default-clause-wanted : goal.returns-in_default-clause-wanted
returns-in_default-clause-wanted t c =
    λ room.
    c.reserve_one.ensures.had_room
    (omega (
      arith,
      room,
      room_at_end c.args.self.now.spare (forest c.args.self.now.items) c.args.k c.args.path.now c.in_default.ensures.cases,
    ))

pub unreachable-requires : goal.unreachable-requires
unreachable-requires t c =
    stands_in_item c.args.self.now.items c.args.k c.args.path.now (sym c.in_default-get_mut.ensures.found) c.requires.there

pub reserve_at-requires : goal.reserve_at-requires
reserve_at-requires t c =
    let way : c.args.path.now ≡ c.in-Some.next.now ∷ c.in-Some.rest.now = c.in-Some.ensures.cases.0 in
    let shorter : length c.args.path.now ≡ suc (length c.in-Some.rest.now) = ap length way in
    let there : slice_get c.args.self.now.items c.args.k ≡ Some (the_view c.there.inside) =
    sym c.in-Some-get_mut.ensures.found ∙ ap Some (sym c.there.view_is) in (
      omega (arith, shorter, c.decreases),
      stands_below c.args.self.now.items c.args.k c.in-Some.next.now c.args.path.now c.in-Some.rest.now (the_view c.there.inside) way there c.requires.there,
    )

pub returns-clause-room : goal.returns-clause-room
returns-clause-room t c =
    let way : c.args.path.now ≡ c.in-Some.next.now ∷ c.in-Some.rest.now = c.in-Some.ensures.cases.0 in
    let there : slice_get c.args.self.now.items c.args.k ≡ Some (the_view c.there.inside) =
    sym c.in-Some-get_mut.ensures.found ∙ ap Some (sym c.there.view_is)
    in
    let new : PlainNode =
    the_view
    record {
      slot = c.there.inside.slot;
      kind = c.there.inside.kind;
      elided = c.there.inside.elided;
      parts = c.there.inside.parts;
      inner = c.reserve_at.new.self;
    }
    in
    room_where c.reserve_at.result _
    (list_room c.reserve_at.new.self.spare (forest c.reserve_at.new.self.items) (c.in-Some.next.now ∷ c.in-Some.rest.now))
    (room_up c.args.self.now.spare c.args.self.now.items c.args.k c.in-Some.next.now c.args.path.now c.in-Some.rest.now (the_view c.there.inside) new way there)
    c.reserve_at.ensures.room

pub returns-clause-same : goal.returns-clause-same
returns-clause-same t c =
    let there : slice_get c.args.self.now.items c.args.k ≡ Some (the_view c.there.inside) =
    sym c.in-Some-get_mut.ensures.found ∙ ap Some (sym c.there.view_is)
    in
    let node : PlainNode = the_view c.there.inside in
    room_alone c.args.self.now.items c.args.k node
    (the_view
    record {
      slot = c.there.inside.slot;
      kind = c.there.inside.kind;
      elided = c.there.inside.elided;
      parts = c.there.inside.parts;
      inner = c.reserve_at.new.self;
    })
    there
    (ap (λ (inner : Forest). let n : PlainNode = record { label = record node.label { spare = 0 }; inner = inner } in n) c.reserve_at.ensures.same)

pub returns-clause-wanted : goal.returns-clause-wanted
returns-clause-wanted t c =
    let way : c.args.path.now ≡ c.in-Some.next.now ∷ c.in-Some.rest.now = c.in-Some.ensures.cases.0 in
    let there : slice_get c.args.self.now.items c.args.k ≡ Some (the_view c.there.inside) =
    sym c.in-Some-get_mut.ensures.found ∙ ap Some (sym c.there.view_is)
    in
    λ room.
    c.reserve_at.ensures.wanted
    (omega (
      arith,
      room,
      room_of c.args.self.now.spare c.args.self.now.items c.args.k c.in-Some.next.now c.args.path.now c.in-Some.rest.now (the_view c.there.inside) way there,
    ))

pub returns-clause-refused : goal.returns-clause-refused
returns-clause-refused t c =
    let there : slice_get c.args.self.now.items c.args.k ≡ Some (the_view c.there.inside) =
    sym c.in-Some-get_mut.ensures.found ∙ ap Some (sym c.there.view_is)
    in
    err_same c.reserve_at.result c.args.self.now c.args.k (the_view c.there.inside).label c.there.inside.inner c.reserve_at.new.self
    (the_view c.there.inside) there refl c.reserve_at.ensures.refused
