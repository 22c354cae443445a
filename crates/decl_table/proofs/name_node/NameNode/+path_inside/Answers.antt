-- Each item that is passed hasn't the slot, and what stands inside it hasn't either, so the slot stands as often in the
-- items that are left as in all. Where it is found in an item, the item's number comes before the path from there on.
use Rattle.std.specs.Prelude.{◌≡◌, ℕ, ◌==◌, if◌then◌else◌, Some, length, option_map, slice_get}
use Rattle.std.proofs.Common.{arith, ap, sym, ◌∙◌}
use Rattle.std.proofs.lemmas.Option.{slice_get_within}
use Rattle.decl_table.specs.Private.NamePaths.{name_times, names_at}
use Rattle.decl_table.specs.Private.PlainNameNode.{PlainNameNode, name_nodes}
use Rattle.plcs_base.specs.ListLeft.{past_where_none}
use Rattle.decl_table.proofs.FoundNames.{item_depth, other_slot, path_through, path_to_item, times_left, times_none, name_node_few, name_nodes_few}
use Rattle.decl_table.proofs.OpenedNames.{found_again}
use Rattle.decl_table.proofs.name_node.NameNode.+path_inside.Goals as goal

pub path_inside-requires : goal.path_inside-requires
path_inside-requires t c =
    let inner = c.args.self.now.inner in
    let item = c.in-Some.item.now in
    let there : slice_get (name_nodes inner) c.loop-item.k ≡ Some item =
    found_again c.self.inside c.args.self.now c.loop-item.k c.self.view_is ∙ sym c.in-Some.ensures in
    let few = name_node_few inner c.loop-item.k item there in (
      omega (arith, few),
      (omega (arith, item_depth inner c.loop-item.k item there, c.requires.shallow), omega (arith, few, c.requires.few)),
    )

pub returns-then-item-slot-clause-path : goal.returns-then-item-slot-clause-path
returns-then-item-slot-clause-path t c =
    let inner = c.args.self.now.inner in
    let item = c.in-Some.item.now in
    let there : slice_get (name_nodes inner) c.loop-item.k ≡ Some item =
    found_again c.self.inside c.args.self.now c.loop-item.k c.self.view_is ∙ sym c.in-Some.ensures in
    let same : item.label.slot ≡ c.args.slot.0 = sym (ap (λ (o : PlainNameNode). o.label.slot) c.item.view_is) ∙ c.if-item-slot.true in
    ap (λ path. option_map (λ (o : PlainNameNode). o.label.slot) (names_at inner path)) c.path_of_item.ensures
    ∙ path_to_item inner c.loop-item.k item c.args.slot.0 there same

pub returns-then-item-slot-clause-short : goal.returns-then-item-slot-clause-short
returns-then-item-slot-clause-short t c =
    let inner = c.args.self.now.inner in
    let item = c.in-Some.item.now in
    let there : slice_get (name_nodes inner) c.loop-item.k ≡ Some item =
    found_again c.self.inside c.args.self.now c.loop-item.k c.self.view_is ∙ sym c.in-Some.ensures in
    omega (arith, item_depth inner c.loop-item.k item there, ap length c.path_of_item.ensures)

pub with_first-requires : goal.with_first-requires
with_first-requires t c =
    let inner = c.args.self.now.inner in
    let item = c.in-Some.item.now in
    let there : slice_get (name_nodes inner) c.loop-item.k ≡ Some item =
    found_again c.self.inside c.args.self.now c.loop-item.k c.self.view_is ∙ sym c.in-Some.ensures in
    record { room = omega (arith, item_depth inner c.loop-item.k item there, c.in-Some-path_inside.ensures.short, c.requires.shallow) }

pub returns-in-Some-path_inside-clause-path : goal.returns-in-Some-path_inside-clause-path
returns-in-Some-path_inside-clause-path t c =
    let inner = c.args.self.now.inner in
    let item = c.in-Some.item.now in
    let there : slice_get (name_nodes inner) c.loop-item.k ≡ Some item =
    found_again c.self.inside c.args.self.now c.loop-item.k c.self.view_is ∙ sym c.in-Some.ensures in
    ap (λ path. option_map (λ (o : PlainNameNode). o.label.slot) (names_at inner path)) c.with_first.ensures
    ∙ path_through inner c.loop-item.k item c.in-Some-path_inside.path.items c.args.slot.0 there c.in-Some-path_inside.ensures.path

pub returns-in-Some-path_inside-clause-short : goal.returns-in-Some-path_inside-clause-short
returns-in-Some-path_inside-clause-short t c =
    let inner = c.args.self.now.inner in
    let item = c.in-Some.item.now in
    let there : slice_get (name_nodes inner) c.loop-item.k ≡ Some item =
    found_again c.self.inside c.args.self.now c.loop-item.k c.self.view_is ∙ sym c.in-Some.ensures in
    omega (arith, item_depth inner c.loop-item.k item there, c.in-Some-path_inside.ensures.short, ap length c.with_first.ensures)

pub overflow_add-k : goal.overflow_add-k
overflow_add-k t c =
    let inner = c.args.self.now.inner in
    let item = c.in-Some.item.now in
    let there : slice_get (name_nodes inner) c.loop-item.k ≡ Some item =
    found_again c.self.inside c.args.self.now c.loop-item.k c.self.view_is ∙ sym c.in-Some.ensures in
    omega (arith, slice_get_within (name_nodes inner) c.loop-item.k item there, name_nodes_few inner, c.requires.few)

pub loop-item-smaller : goal.loop-item-smaller
loop-item-smaller t c =
    let within = slice_get_within c.self.inside.inner.items c.loop-item.k c.in-Some.item.now (sym c.in-Some.ensures) in
    omega (arith, within)

pub loop-item-preserved : goal.loop-item-preserved
loop-item-preserved t c =
    let items = c.self.inside.inner.items in
    let item = c.in-Some.item.now in
    let there : slice_get items c.loop-item.k ≡ Some item = sym c.in-Some.ensures in
    let within = slice_get_within items c.loop-item.k item there in
    let turn = times_left c.args.slot.0 items c.loop-item.k item there in
    let other : ◌≡◌ {A = ℕ} (if item.label.slot == c.args.slot.0 then 1 else 0) 0 =
    other_slot item.label.slot c.args.slot.0
    (λ same. c.if-item-slot.false (ap (λ (o : PlainNameNode). o.label.slot) c.item.view_is ∙ same)) in
    record {
      left = omega (arith, c.loop-item.invariant.left, turn, other, c.in_default-path_inside.ensures.none);
      within = omega (arith, within);
    }

pub returns-clause-none : goal.returns-clause-none
returns-clause-none t c =
    let items = c.self.inside.inner.items in
    let past = past_where_none items c.loop-item.k (sym c.in_default.ensures) in
    sym (ap (λ (o : PlainNameNode). name_times c.args.slot.0 o.inner) c.self.view_is)
    ∙ c.loop-item.invariant.left ∙ times_none c.args.slot.0 items c.loop-item.k past
