-- After each turn the names gathered so far, with those of the items that are left, are those of the whole program.
use Rattle.std.specs.Prelude.{◌≡◌, refl, Some, None, slice_get}
use Rattle.std.proofs.Common.{arith, ap, sym, ◌∙◌}
use Rattle.std.proofs.lemmas.Option.{slice_get_within}
use Rattle.template_tree.specs.Positions.Path.{node_at}
use Rattle.template_tree.specs.Programs.PlainTree.{nodes}
use Rattle.decl_table.specs.Names.{names_of}
use Rattle.decl_table.specs.Private.PlainNameNode.{PlainNameNode}
use Rattle.decl_table.proofs.MadeNames.{made_all, made_next, made_none}
use Rattle.decl_table.proofs.name_node.NameNode.push_items.Goals as goal

pub loop-item-init : goal.loop-item-init
loop-item-init c = record {
  made = made_none c.args.tree.now.items c.args.self.now.inner c.requires.none;
  label = refl;
  within = omega arith;
}

pub of-requires-clause-few : goal.of-requires-clause-few
of-requires-clause-few c = omega (arith, c.in-Some.ensures.few)

pub overflow_add-k : goal.overflow_add-k
overflow_add-k c =
    let items = c.args.tree.now.items in
    let there : slice_get (nodes items) c.loop-item.k ≡ Some c.in-Some.item.now =
    sym (c.items_are_nodes.ensures.found items c.loop-item.k) ∙ sym (ap (node_at items) c.path_of_item.ensures) ∙ sym c.in-Some.ensures.found in
    omega (arith, slice_get_within (nodes items) c.loop-item.k c.in-Some.item.now there, c.items_are_nodes.ensures.few items, c.requires.tree.few)

pub loop-item-smaller : goal.loop-item-smaller
loop-item-smaller c =
    let items = c.args.tree.now.items in
    let there : slice_get (nodes items) c.loop-item.k ≡ Some c.in-Some.item.now =
    sym (c.items_are_nodes.ensures.found items c.loop-item.k) ∙ sym (ap (node_at items) c.path_of_item.ensures) ∙ sym c.in-Some.ensures.found in
    omega (arith, slice_get_within (nodes items) c.loop-item.k c.in-Some.item.now there)

pub loop-item-preserved : goal.loop-item-preserved
loop-item-preserved c =
    let items = c.args.tree.now.items in
    let node = c.in-Some.item.now in
    let there : slice_get (nodes items) c.loop-item.k ≡ Some node =
    sym (c.items_are_nodes.ensures.found items c.loop-item.k) ∙ sym (ap (node_at items) c.path_of_item.ensures) ∙ sym c.in-Some.ensures.found in
    record {
      made =
          made_next (names_of items) c.loop-item.self.inner c.push.new.self.inner (nodes items) c.loop-item.k node c.in-Ok.kept there
          c.in-Ok.ensures (ap (λ (n : PlainNameNode). n.inner) c.in_ok-push.ensures) c.loop-item.invariant.made;
      label = ap (λ (n : PlainNameNode). n.label) c.in_ok-push.ensures ∙ c.loop-item.invariant.label;
      within = omega (arith, slice_get_within (nodes items) c.loop-item.k node there);
    }

pub returns-clause-inner : goal.returns-clause-inner
returns-clause-inner c =
    let items = c.args.tree.now.items in
    let none : slice_get (nodes items) c.loop-item.k ≡ None =
    sym (c.items_are_nodes.ensures.found items c.loop-item.k) ∙ sym (ap (node_at items) c.path_of_item.ensures) ∙ sym c.in_default.ensures.found in
    made_all (names_of items) c.loop-item.self.inner (nodes items) c.loop-item.k none c.loop-item.invariant.made

pub returns-clause-label : goal.returns-clause-label
returns-clause-label c = c.loop-item.invariant.label
