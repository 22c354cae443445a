-- With the places in the nodes that are left, all are there that the nodes have.
use Rattle.std.proofs.Common.{◌≡◌, ◌+◌, Some, drop, length, slice_get, refl, sym, ap, subst, ◌∙◌, arith}
use Rattle.std.proofs.lemmas.Option.{slice_get_read}
use Rattle.std.proofs.Math.ListN.{drop_of_length-le}
use Rattle.decl_table.specs.Private.NamePaths.{name_count}
use Rattle.decl_table.specs.Private.PlainNameNode.{HaveFewParts, name_forest, name_forest_nodes, name_nodes_forest, name_places, node_names}
use Rattle.decl_table.proofs.AddedUses.{few_of, left_behind, then_ok}
use Rattle.decl_table.proofs.FoundNames.{name_node_few}
use Rattle.decl_table.proofs.GatheredPlaces.{all_gathered, more_gathered, node_places, nodes_turn}
use Rattle.decl_table.proofs.changed_nodes.+add_all_places.Goals as goal

pub add_all_places-add_places_of-requires : goal.add_all_places-add_places_of-requires
add_all_places-add_places_of-requires t c =
    let node = c.args.node.now in
    let same : name_forest c.nodes_inside.result.now ≡ node.inner = ap name_forest c.nodes_inside.ensures ∙ name_forest_nodes node.inner in
    let fewer = ap name_count same in
    (omega (arith, fewer), subst HaveFewParts (sym same) c.requires.few.1)

pub add_all_places-returns : goal.add_all_places-returns
add_all_places-returns t c =
    let node = c.args.node.now in
    let same : name_forest c.nodes_inside.result.now ≡ node.inner = ap name_forest c.nodes_inside.ensures ∙ name_forest_nodes node.inner in
    then_ok c.add_places_of.result
    (λ is.
    node_places c.args.places.now c.add_part_places.new.places c.add_places_of.new.places node (name_forest c.nodes_inside.result.now) same
    c.in_ok-add_part_places.ensures is)
    c.add_places_of.ensures

pub add_places_of-add_all_places-requires : goal.add_places_of-add_all_places-requires
add_places_of-add_all_places-requires t c =
    let nodes = c.args.nodes.now in
    let k = c.loop-node.node-index in
    let node = c.node-item.result in
    let there : slice_get nodes k ≡ Some node = slice_get_read nodes (length nodes) k node refl c.loop-node-test.true c.node-item.is in
    let few = name_node_few (name_forest nodes) k node (ap (λ xs. slice_get xs k) (name_nodes_forest nodes) ∙ there) in
    (omega (arith, few), few_of nodes k node there c.requires.few)

pub add_places_of-loop-node-preserved : goal.add_places_of-loop-node-preserved
add_places_of-loop-node-preserved t c =
    let nodes = c.args.nodes.now in
    let k = c.loop-node.node-index in
    let node = c.node-item.result in
    more_gathered c.args.places.now c.loop-node.places c.add_all_places.new.places (name_places (node_names node))
    (name_places (name_forest (drop k nodes))) (name_places (name_forest (drop (k + 1) nodes))) (name_places (name_forest nodes))
    c.in_ok-add_all_places.ensures (nodes_turn nodes k node (left_behind nodes k node c.loop-node-test.true c.node-item.is))
    c.loop-node.invariant

pub add_places_of-returns : goal.add_places_of-returns
add_places_of-returns t c =
    let nodes = c.args.nodes.now in
    let k = c.loop-node.node-index in
    all_gathered c.args.places.now c.loop-node.places (name_places (name_forest (drop k nodes))) (name_places (name_forest nodes))
    (ap (λ xs. name_places (name_forest xs)) (drop_of_length-le nodes (omega (arith, c.loop-node-test.false)))) c.loop-node.invariant
