-- A list after an item left at a path is the list with an edit at that path, level by level: at the end of the path the
-- item leaves its list, and each level above sets one item, in whose list the edit was made.
use Rattle.std.specs.Prelude.{◌≡◌, refl, ◌∷◌, [], Some, slice_get, length, suc}
use Rattle.std.proofs.Common.{arith, ap, sym, ◌∙◌}
use Rattle.template_tree.specs.contracts.node.Node.{the_view}
use Rattle.template_tree.specs.Programs.PlainTree.{PlainNode, forest}
use Rattle.template_tree.specs.Edits.Receipt.{list_room}
use Rattle.template_tree.proofs.Lists.ListChanges.{item_there, taken_here, room_here, no_item, level_of, none_same, room_up, some_room}
use Rattle.template_tree.proofs.node.Nodes.+remove_at.Goals as goal

pub returns-in_default-clause-taken : goal.returns-in_default-clause-taken
returns-in_default-clause-taken t c =
    c.take_out.ensures.taken ∙ item_there c.args.self.now.items c.args.k c.args.path.now c.in_default.ensures.cases

pub returns-in_default-clause-others : goal.returns-in_default-clause-others
returns-in_default-clause-others t c =
    taken_here c.take_out.result c.args.self.now c.take_out.new.self c.args.k c.args.path.now c.in_default.ensures.cases
    c.take_out.ensures.taken c.take_out.ensures.others c.take_out.ensures.none

pub returns-in_default-clause-spare : goal.returns-in_default-clause-spare
returns-in_default-clause-spare t c =
    room_here c.take_out.result c.args.self.now c.take_out.new.self c.args.k c.args.path.now c.in_default.ensures.cases
    c.take_out.ensures.others

pub returns-in_default-get_mut-clause-others : goal.returns-in_default-get_mut-clause-others
returns-in_default-get_mut-clause-others t c =
    no_item (λ _. []) c.args.self.now.items c.args.k c.args.path.now (sym c.in_default-get_mut.ensures.found)

pub remove_at-requires : goal.remove_at-requires
remove_at-requires t c =
    let way : c.args.path.now ≡ c.in-Some.next.now ∷ c.in-Some.rest.now = c.in-Some.ensures.cases.0 in
    let shorter : length c.args.path.now ≡ suc (length c.in-Some.rest.now) = ap length way in
    (omega (arith, shorter, c.decreases), tt)

pub returns-clause-others : goal.returns-clause-others
returns-clause-others t c =
    let there : slice_get c.args.self.now.items c.args.k ≡ Some (the_view c.node.inside) =
    sym c.in-Some-get_mut.ensures.found ∙ ap Some (sym c.node.view_is)
    in
    level_of (λ _. []) c.args.self.now.items c.args.k c.in-Some.next.now c.args.path.now c.in-Some.rest.now (the_view c.node.inside)
    (the_view
    record {
      slot = c.node.inside.slot;
      kind = c.node.inside.kind;
      elided = c.node.inside.elided;
      parts = c.node.inside.parts;
      inner = c.remove_at.new.self;
    })
    c.in-Some.ensures.cases.0 there record { label = refl; inner = c.remove_at.ensures.others }

pub returns-clause-room : goal.returns-clause-room
returns-clause-room t c =
    let there : slice_get c.args.self.now.items c.args.k ≡ Some (the_view c.node.inside) =
    sym c.in-Some-get_mut.ensures.found ∙ ap Some (sym c.node.view_is)
    in
    none_same c.remove_at.result c.args.self.now c.args.k (the_view c.node.inside).label c.node.inside.inner c.remove_at.new.self
    (the_view c.node.inside) there refl c.remove_at.ensures.room

pub returns-clause-spare : goal.returns-clause-spare
returns-clause-spare t c =
    let there : slice_get c.args.self.now.items c.args.k ≡ Some (the_view c.node.inside) =
    sym c.in-Some-get_mut.ensures.found ∙ ap Some (sym c.node.view_is)
    in
    let new : PlainNode =
    the_view
    record {
      slot = c.node.inside.slot;
      kind = c.node.inside.kind;
      elided = c.node.inside.elided;
      parts = c.node.inside.parts;
      inner = c.remove_at.new.self;
    }
    in
    some_room c.remove_at.result _ (list_room c.remove_at.new.self.spare (forest c.remove_at.new.self.items) (c.in-Some.next.now ∷ c.in-Some.rest.now))
    (room_up c.args.self.now.spare c.args.self.now.items c.args.k c.in-Some.next.now c.args.path.now c.in-Some.rest.now (the_view c.node.inside) new c.in-Some.ensures.cases.0 there)
    c.remove_at.ensures.spare
