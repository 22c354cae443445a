use Rattle.std.specs.Prelude.{◌≡◌, suc, ◌∷◌, Some, length, slice_get}
use Rattle.std.proofs.Common.{arith, ap, sym, ◌∙◌}
use Rattle.template_tree.specs.Programs.PlainTree.{PlainNode, forest}
use Rattle.template_tree.specs.contracts.node.Node.{the_view}
use Rattle.template_tree.proofs.Lists.BesidePaths.{here_siblings, no_siblings, item_siblings}
use Rattle.template_tree.proofs.around_path.+siblings_of.Goals as goal

pub returns-then-is_empty : goal.returns-then-is_empty
returns-then-is_empty t c =
    ap forest c.as_slice.ensures
    ∙ here_siblings (forest c.args.nodes.now.items) c.in-Some.k.now c.args.path.now c.in-Some.rest.now c.in-Some.ensures.cases.0
    c.if-is_empty.ensures

pub returns-in_default-get : goal.returns-in_default-get
returns-in_default-get t c =
    no_siblings c.args.nodes.now.items c.in-Some.k.now c.args.path.now c.in-Some.rest.now c.in-Some.ensures.cases.0
    c.if-is_empty.ensures (sym c.in_default-get.ensures)

pub siblings_of-requires : goal.siblings_of-requires
siblings_of-requires t c =
    let way : c.args.path.now ≡ c.in-Some.k.now ∷ c.in-Some.rest.now = c.in-Some.ensures.cases.0 in
    let shorter : length c.args.path.now ≡ suc (length c.in-Some.rest.now) = ap length way in
    (omega (arith, shorter, c.decreases), tt)

pub returns : goal.returns
returns t c =
    let node : PlainNode = the_view c.node.inside in
    let there : slice_get c.args.nodes.now.items c.in-Some.k.now ≡ Some node =
    sym c.in-Some-get.ensures ∙ ap Some (sym c.node.view_is) in
    c.siblings_of.ensures
    ∙ item_siblings c.args.nodes.now.items c.in-Some.k.now c.args.path.now c.in-Some.rest.now node c.in-Some.ensures.cases.0
    c.if-is_empty.ensures there
