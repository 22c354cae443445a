use Rattle.std.proofs.Common.{◌<◌, ◌∷◌, ◌∙◌, ap, arith, length}
use Rattle.template_tree.specs.Positions.Path.{slot_at}
use Rattle.template_tree.specs.Programs.PlainTree.{forest}
use Rattle.template_tree.proofs.Trees.SlotPaths.{item_few, item_light, item_shallow, list_few, path_through}
use Rattle.template_tree.proofs.path_of.+find.Goals as goal

pub path_in-path_below-requires : goal.path_in-path_below-requires
path_in-path_below-requires t c =
    let inside : c.loop-node.node-index < length c.args.nodes.now = c.loop-node-test.true in
    let light = item_light c.args.nodes.now c.loop-node.node-index c.node-item.result inside c.node-item.is in
    let shallow = item_shallow c.args.nodes.now c.loop-node.node-index c.node-item.result inside c.node-item.is in
    let few = item_few c.args.nodes.now c.loop-node.node-index c.node-item.result inside c.node-item.is in
    (omega (arith, light), (omega (arith, shallow, c.requires.shallow), omega (arith, few, c.requires.few)))

pub path_in-with_first-requires : goal.path_in-with_first-requires
path_in-with_first-requires t c =
    let shallow = item_shallow c.args.nodes.now c.loop-node.node-index c.node-item.result c.loop-node-test.true c.node-item.is in
    record { room = omega (arith, shallow, c.in-Some.ensures.short, c.requires.shallow) }

pub path_in-returns-in-Some-clause-path : goal.path_in-returns-in-Some-clause-path
path_in-returns-in-Some-clause-path t c =
    let through =
    path_through c.args.nodes.now c.loop-node.node-index c.node-item.result c.in-Some.path.items c.args.slot.0 c.loop-node-test.true
    c.node-item.is c.in-Some.ensures.path in
    ap (slot_at (forest c.args.nodes.now)) (c.with_first.ensures ∙ ap (λ k. k ∷ c.in-Some.path.items) c.loop-node.invariant.number) ∙ through

pub path_in-returns-in-Some-clause-short : goal.path_in-returns-in-Some-clause-short
path_in-returns-in-Some-clause-short t c =
    let shallow = item_shallow c.args.nodes.now c.loop-node.node-index c.node-item.result c.loop-node-test.true c.node-item.is in
    omega (arith, shallow, c.in-Some.ensures.short, ap length c.with_first.ensures)

pub path_in-overflow_add-k : goal.path_in-overflow_add-k
path_in-overflow_add-k t c =
    omega (arith, list_few c.args.nodes.now, c.loop-node-test.true, c.loop-node.invariant.number, c.requires.few)
