-- With what the nodes that are left add, all is noted that the nodes add; a node adds its parts and what stands inside it.
use Rattle.std.proofs.Common.{◌≡◌, ◌+◌, Some, drop, length, slice_get, refl, sym, ap, subst, ◌∙◌, arith}
use Rattle.std.proofs.lemmas.Option.{slice_get_read}
use Rattle.std.proofs.Math.ListN.{drop_of_length-le}
use Rattle.decl_table.specs.Private.NamePaths.{name_count}
use Rattle.decl_table.specs.Private.PlainNameNode.{HaveFewParts, name_forest, name_forest_nodes, name_nodes_forest, node_names}
use Rattle.decl_table.specs.Private.UsesView.{AddsNodes}
use Rattle.decl_table.proofs.AddedUses.{adds_both, few_of, left_behind, leaves_next, leaves_none, of_node, of_nodes, of_nodes-first, of_parts, then_ok}
use Rattle.decl_table.proofs.FoundNames.{name_node_few}
use Rattle.decl_table.proofs.uses.Uses.+note_node.Goals as goal

pub note_node-note_nodes-requires : goal.note_node-note_nodes-requires
note_node-note_nodes-requires t c =
    let node = c.args.node.now in
    let same : name_forest c.nodes_inside.result.now ≡ node.inner = ap name_forest c.nodes_inside.ensures ∙ name_forest_nodes node.inner in
    let fewer = ap name_count same in
    (omega (arith, fewer), subst HaveFewParts (sym same) c.requires.few.1)

pub note_node-returns : goal.note_node-returns
note_node-returns t c =
    let node = c.args.node.now in
    let same : name_forest c.nodes_inside.result.now ≡ node.inner = ap name_forest c.nodes_inside.ensures ∙ name_forest_nodes node.inner in
    then_ok c.note_nodes.result
    (λ adds. adds_both (of_parts node.label.slot 0 node.label.parts) (of_nodes node.inner) (of_nodes (node_names node)) c.args.self.now.uses
    c.note_parts.new.self.uses c.note_nodes.new.self.uses c.in_ok-note_parts.ensures
    (subst (λ nodes. AddsNodes nodes c.note_parts.new.self.uses c.note_nodes.new.self.uses) same adds) (of_node node))
    c.note_nodes.ensures

pub note_nodes-note_node-requires : goal.note_nodes-note_node-requires
note_nodes-note_node-requires t c =
    let nodes = c.args.nodes.now in
    let k = c.loop-node.node-index in
    let node = c.node-item.result in
    let there : slice_get nodes k ≡ Some node = slice_get_read nodes (length nodes) k node refl c.loop-node-test.true c.node-item.is in
    let few = name_node_few (name_forest nodes) k node (ap (λ xs. slice_get xs k) (name_nodes_forest nodes) ∙ there) in
    (omega (arith, few), few_of nodes k node there c.requires.few)

pub note_nodes-loop-node-preserved : goal.note_nodes-loop-node-preserved
note_nodes-loop-node-preserved t c =
    let nodes = c.args.nodes.now in
    let k = c.loop-node.node-index in
    let node = c.node-item.result in
    leaves_next (of_nodes (node_names node)) (of_nodes (name_forest (drop (k + 1) nodes))) (of_nodes (name_forest (drop k nodes)))
    (of_nodes (name_forest nodes)) c.args.self.now.uses c.loop-node.self.uses c.note_node.new.self.uses c.in_ok-note_node.ensures
    (of_nodes-first (name_forest (drop k nodes)) node (name_forest (drop (k + 1) nodes))
    (ap name_forest (left_behind nodes k node c.loop-node-test.true c.node-item.is)))
    c.loop-node.invariant

pub note_nodes-returns : goal.note_nodes-returns
note_nodes-returns t c =
    let nodes = c.args.nodes.now in
    let k = c.loop-node.node-index in
    leaves_none (of_nodes (name_forest (drop k nodes))) (of_nodes (name_forest nodes)) c.args.self.now.uses c.loop-node.self.uses
    (λ name at. ap (λ rest. of_nodes (name_forest rest) name at) (drop_of_length-le nodes (omega (arith, c.loop-node-test.false))))
    c.loop-node.invariant
