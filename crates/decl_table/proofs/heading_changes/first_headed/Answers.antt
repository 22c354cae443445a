-- The heading is that of the items that are left, until the first of them has it.
use Rattle.std.specs.Prelude.{◌≡◌, ◌+◌, Some, None, cond, drop, slice_get}
use Rattle.std.specs.Option.{option_or}
use Rattle.std.proofs.Common.{arith, ap, sym, ◌∙◌}
use Rattle.std.proofs.lemmas.Option.{slice_get_within}
use Rattle.template_tree.specs.Positions.Path.{node_at}
use Rattle.template_tree.specs.Programs.PlainTree.{forest, forest_nodes, nodes}
use Rattle.plcs_base.specs.ListLeft.{left_from, none_left}
use Rattle.decl_table.proofs.EditedHeadings.{headed}
use Rattle.decl_table.proofs.NotedHeadings.{headed_turn, never_headed}
use Rattle.decl_table.proofs.heading_changes.first_headed.Goals as goal

pub returns-then-not-may_be_called : goal.returns-then-not-may_be_called
returns-then-not-may_be_called c =
    sym (never_headed c.args.name.now c.args.tree.now.items (sym c.may_be_called.ensures ∙ c.if-not-may_be_called.true))

pub loop-item-init : goal.loop-item-init
loop-item-init c = record { left = ap (headed c.args.name.now) (forest_nodes c.args.tree.now.items); within = omega arith }

pub returns-then-heads : goal.returns-then-heads
returns-then-heads c =
    let items = c.args.tree.now.items in
    let name = c.args.name.now in
    let node = c.in-Some.item.now in
    let k = c.loop-item.k in
    let there : slice_get (nodes items) k ≡ Some node =
    sym (c.items_are_nodes.ensures.found items k) ∙ sym (ap (node_at items) c.path_of_item.ensures) ∙ sym c.in-Some.ensures.found in
    ap Some c.slot.ensures
    ∙ sym
    (headed_turn name node (forest (drop k (nodes items))) (forest (drop (k + 1) (nodes items))) c.heads.result
    (ap forest (left_from (nodes items) k node there)) (sym c.may_be_called.ensures ∙ c.if-not-may_be_called.false) c.heads.ensures
    ∙ ap (λ b. option_or (cond b (Some node.label.slot) None) (headed name (forest (drop (k + 1) (nodes items))))) c.if-heads.true)
    ∙ c.loop-item.invariant.left

pub overflow_add-k : goal.overflow_add-k
overflow_add-k c =
    let items = c.args.tree.now.items in
    let there : slice_get (nodes items) c.loop-item.k ≡ Some c.in-Some.item.now =
    sym (c.items_are_nodes.ensures.found items c.loop-item.k) ∙ sym (ap (node_at items) c.path_of_item.ensures) ∙ sym c.in-Some.ensures.found in
    omega (arith, slice_get_within (nodes items) c.loop-item.k c.in-Some.item.now there, c.items_are_nodes.ensures.few items, c.requires.tree.few)

pub loop-item-smaller : goal.loop-item-smaller
loop-item-smaller c =
    let items = c.args.tree.now.items in
    let there : slice_get (nodes items) c.loop-item.k ≡ Some c.in-Some.item.now =
    sym (c.items_are_nodes.ensures.found items c.loop-item.k) ∙ sym (ap (node_at items) c.path_of_item.ensures) ∙ sym c.in-Some.ensures.found in
    omega (arith, slice_get_within (nodes items) c.loop-item.k c.in-Some.item.now there)

pub loop-item-preserved : goal.loop-item-preserved
loop-item-preserved c =
    let items = c.args.tree.now.items in
    let name = c.args.name.now in
    let node = c.in-Some.item.now in
    let k = c.loop-item.k in
    let there : slice_get (nodes items) k ≡ Some node =
    sym (c.items_are_nodes.ensures.found items k) ∙ sym (ap (node_at items) c.path_of_item.ensures) ∙ sym c.in-Some.ensures.found in
    record {
      left =
          sym
          (headed_turn name node (forest (drop k (nodes items))) (forest (drop (k + 1) (nodes items))) c.heads.result
          (ap forest (left_from (nodes items) k node there)) (sym c.may_be_called.ensures ∙ c.if-not-may_be_called.false) c.heads.ensures
          ∙ ap (λ b. option_or (cond b (Some node.label.slot) None) (headed name (forest (drop (k + 1) (nodes items))))) c.if-heads.false)
          ∙ c.loop-item.invariant.left;
      within = omega (arith, slice_get_within (nodes items) k node there);
    }

pub returns : goal.returns
returns c =
    let items = c.args.tree.now.items in
    let k = c.loop-item.k in
    let none : slice_get (nodes items) k ≡ None =
    sym (c.items_are_nodes.ensures.found items k) ∙ sym (ap (node_at items) c.path_of_item.ensures) ∙ sym c.in_default.ensures.found in
    ap (λ left. headed c.args.name.now (forest left)) (sym (none_left (nodes items) k none)) ∙ c.loop-item.invariant.left
