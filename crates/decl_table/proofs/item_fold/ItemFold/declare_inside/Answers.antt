use Rattle.std.proofs.Common.{◌∙◌, drop, sym, ap, refl, ◌+◌, arith}
use Rattle.std.proofs.lemmas.Option.{slice_get_within}
use Rattle.template_tree.specs.Checks.Environment.{all_declared, declares, effective}
use Rattle.template_tree.specs.Programs.PlainTree.{forest, forest_nodes, nodes}
use Rattle.decl_table.proofs.ItemLists.{effective_append}
use Rattle.plcs_base.specs.ListLeft.{left_from, none_left}
use Rattle.decl_table.proofs.item_fold.ItemFold.declare_inside.Goals as goal

pub loop-node-init : goal.loop-node-init
loop-node-init c = record {
  made = rw (c.requires.none, forest_nodes c.args.procedure.now.inner) refl;
  within = omega arith;
}

pub overflow_add-k : goal.overflow_add-k
overflow_add-k c =
    let within = slice_get_within (nodes c.args.procedure.now.inner) c.loop-node.k c.in-Some.node.now (sym c.in-Some.ensures) in
    omega (arith, within, c.items_are_nodes.ensures.few c.args.procedure.now.inner, c.requires.few)

pub loop-node-smaller : goal.loop-node-smaller
loop-node-smaller c =
    let within = slice_get_within (nodes c.args.procedure.now.inner) c.loop-node.k c.in-Some.node.now (sym c.in-Some.ensures) in
    omega (arith, within)

pub loop-node-preserved : goal.loop-node-preserved
loop-node-preserved c =
    let all = nodes c.args.procedure.now.inner in
    let rest = all_declared (forest (drop (c.loop-node.k + 1) all)) in
    let within = slice_get_within all c.loop-node.k c.in-Some.node.now (sym c.in-Some.ensures) in
    record {
      made =
          ap (λ items. effective items rest) c.in_ok-declare_all.ensures.items
          ∙ sym (effective_append c.loop-node.self (declares c.in-Some.node.now.label) rest)
          ∙ ap (λ left. effective c.loop-node.self (all_declared (forest left))) (sym (left_from all c.loop-node.k c.in-Some.node.now (sym c.in-Some.ensures)))
          ∙ c.loop-node.invariant.made;
      within = omega (arith, within);
    }

pub returns : goal.returns
returns c =
    ap (λ left. effective c.loop-node.self (all_declared (forest left)))
    (sym (none_left (nodes c.args.procedure.now.inner) c.loop-node.k (sym c.in_default.ensures)))
    ∙ c.loop-node.invariant.made
