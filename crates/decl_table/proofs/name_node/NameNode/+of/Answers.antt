-- After each turn the names gathered so far, with those of the items that are left, are those of all items.
use Rattle.std.specs.Prelude.{◌≡◌, refl, Some, slice_get}
use Rattle.std.proofs.Common.{arith, ap, sym, ◌∙◌}
use Rattle.std.proofs.lemmas.Option.{slice_get_within}
use Rattle.template_tree.specs.Programs.PlainTree.{nodes}
use Rattle.decl_table.specs.Names.{names_of}
use Rattle.decl_table.specs.Private.PlainNameNode.{PlainNameNode, name_node_of}
use Rattle.decl_table.proofs.AddedUses.{then_ok}
use Rattle.decl_table.proofs.HandedOut.{handed}
use Rattle.decl_table.proofs.MadeNames.{few_parts, made_all, made_next, made_none, same_node}
use Rattle.decl_table.proofs.OkAnswers.{both_ok}
use Rattle.decl_table.proofs.name_node.NameNode.+of.Goals as goal

pub of-label_of-requires : goal.of-label_of-requires
of-label_of-requires t c = record { few = few_parts c.args.node.now c.requires.subtree }

pub of-push_inside-requires : goal.of-push_inside-requires
of-push_inside-requires t c = (omega arith, (c.requires.subtree, (c.requires.few, c.in_ok-names.ensures.inner)))

pub of-returns : goal.of-returns
of-returns t c =
    let node = c.args.node.now in
    handed c.push_inside.result c.push_inside.new.self c.and.result (λ names. names ≡ name_node_of node) c.and.ensures
    (then_ok c.push_inside.result
    (λ both. same_node c.push_inside.new.self (name_node_of node) (both.1 ∙ c.in_ok-names.ensures.label) both.0)
    (both_ok c.push_inside.result _ _ c.push_inside.ensures.inner c.push_inside.ensures.label))

pub push_inside-loop-child-init : goal.push_inside-loop-child-init
push_inside-loop-child-init t c = record {
  made = made_none c.args.node.now.inner c.args.self.now.inner c.requires.none;
  label = refl;
  within = omega arith;
}

pub push_inside-of-requires : goal.push_inside-of-requires
push_inside-of-requires t c =
    let inner = c.args.node.now.inner in
    let child = c.in-Some.child.now in
    let there : slice_get (nodes inner) c.loop-child.k ≡ Some child = sym c.in-Some.ensures in
    let few = c.items_are_nodes.ensures.fewer inner c.loop-child.k child there in (
      omega (arith, few),
      (c.items_are_nodes.ensures.subtrees inner c.loop-child.k child there c.requires.subtree.1, omega (arith, few, c.requires.few)),
    )

pub push_inside-overflow_add-k : goal.push_inside-overflow_add-k
push_inside-overflow_add-k t c =
    let within = slice_get_within (nodes c.args.node.now.inner) c.loop-child.k c.in-Some.child.now (sym c.in-Some.ensures) in
    omega (arith, within, c.items_are_nodes.ensures.few c.args.node.now.inner, c.requires.few)

pub push_inside-loop-child-smaller : goal.push_inside-loop-child-smaller
push_inside-loop-child-smaller t c =
    let within = slice_get_within (nodes c.args.node.now.inner) c.loop-child.k c.in-Some.child.now (sym c.in-Some.ensures) in
    omega (arith, within)

pub push_inside-loop-child-preserved : goal.push_inside-loop-child-preserved
push_inside-loop-child-preserved t c =
    let inner = c.args.node.now.inner in
    let child = c.in-Some.child.now in
    let there : slice_get (nodes inner) c.loop-child.k ≡ Some child = sym c.in-Some.ensures in
    record {
      made =
          made_next (names_of inner) c.loop-child.self.inner c.push.new.self.inner (nodes inner) c.loop-child.k child c.in-Ok.names there
          c.in-Ok.ensures (ap (λ (n : PlainNameNode). n.inner) c.in_ok-push.ensures) c.loop-child.invariant.made;
      label = ap (λ (n : PlainNameNode). n.label) c.in_ok-push.ensures ∙ c.loop-child.invariant.label;
      within = omega (arith, slice_get_within (nodes inner) c.loop-child.k child there);
    }

pub push_inside-returns-clause-inner : goal.push_inside-returns-clause-inner
push_inside-returns-clause-inner t c =
    let inner = c.args.node.now.inner in
    made_all (names_of inner) c.loop-child.self.inner (nodes inner) c.loop-child.k (sym c.in_default.ensures) c.loop-child.invariant.made

pub push_inside-returns-clause-label : goal.push_inside-returns-clause-label
push_inside-returns-clause-label t c = c.loop-child.invariant.label
