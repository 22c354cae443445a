use Rattle.std.proofs.Common.{◌≡◌, ◌+◌, ◌∙◌, Some, drop, length, slice_get, refl, ap, sym, arith}
use Rattle.std.proofs.lemmas.Option.{slice_get_read}
use Rattle.std.proofs.Math.ListN.{drop_of_length-le}
use Rattle.plcs_grammar.specs.Template.{PlainRow}
use Rattle.template_tree.specs.Programs.Program.{sort_of}
use Rattle.decl_table.specs.Due.{binds_names}
use Rattle.decl_table.specs.Private.NamePaths.{name_count}
use Rattle.decl_table.specs.Private.NameTests.{bound_has, parts_have}
use Rattle.decl_table.specs.Private.PlainNameNode.{name_forest, name_forest_nodes, name_nodes_forest, node_names}
use Rattle.decl_table.proofs.AddedNames.{adds_no_names, adds_then, names_end, names_turn, node_binds, node_binds_none, node_first}
use Rattle.decl_table.proofs.AddedUses.{left_behind, then_ok}
use Rattle.decl_table.proofs.FoundNames.{name_node_few}
use Rattle.decl_table.proofs.changed_nodes.+add_all_bound.Goals as goal

pub add_all_bound-add_bound_in-requires : goal.add_all_bound-add_bound_in-requires
add_all_bound-add_bound_in-requires t c =
    let node = c.args.node.now in
    let same : name_forest c.nodes_inside.result.now ≡ node.inner = ap name_forest c.nodes_inside.ensures ∙ name_forest_nodes node.inner in
    let fewer = ap name_count same in
    omega (arith, fewer)

pub add_all_bound-returns-then-not-sort_binds_names : goal.add_all_bound-returns-then-not-sort_binds_names
add_all_bound-returns-then-not-sort_binds_names t c =
    let node = c.args.node.now in
    let sorts : c.row.result.sort ≡ sort_of node.label.kind =
    ap (λ (r : PlainRow). r.sort) c.row.ensures ∙ ap sort_of c.kind.ensures in
    adds_no_names c.args.names.now (bound_has (node_names node))
    (node_binds_none node (ap binds_names (sym sorts) ∙ sym c.sort_binds_names.ensures ∙ c.if-not-sort_binds_names.true))

pub add_all_bound-returns : goal.add_all_bound-returns
add_all_bound-returns t c =
    let node = c.args.node.now in
    let inside = name_forest c.nodes_inside.result.now in
    let sorts : c.row.result.sort ≡ sort_of node.label.kind =
    ap (λ (r : PlainRow). r.sort) c.row.ensures ∙ ap sort_of c.kind.ensures in
    let same : inside ≡ node.inner = ap name_forest c.nodes_inside.ensures ∙ name_forest_nodes node.inner in
    then_ok c.add_bound_in.result
    (λ more.
    adds_then c.args.names.now c.add_part_names.new.self c.add_bound_in.new.names (parts_have node.label.parts) (bound_has inside)
    (bound_has (node_names node)) c.in_ok-add_part_names.ensures more
    (node_binds node inside same (ap binds_names (sym sorts) ∙ sym c.sort_binds_names.ensures ∙ c.if-not-sort_binds_names.false)))
    c.add_bound_in.ensures

pub add_bound_in-add_all_bound-requires : goal.add_bound_in-add_all_bound-requires
add_bound_in-add_all_bound-requires t c =
    let nodes = c.args.nodes.now in
    let k = c.loop-node.node-index in
    let node = c.node-item.result in
    let there : slice_get nodes k ≡ Some node = slice_get_read nodes (length nodes) k node refl c.loop-node-test.true c.node-item.is in
    let few = name_node_few (name_forest nodes) k node (ap (λ xs. slice_get xs k) (name_nodes_forest nodes) ∙ there) in
    omega (arith, few)

pub add_bound_in-loop-node-preserved : goal.add_bound_in-loop-node-preserved
add_bound_in-loop-node-preserved t c =
    let nodes = c.args.nodes.now in
    let k = c.loop-node.node-index in
    let node = c.node-item.result in
    names_turn c.args.names.now c.loop-node.names c.add_all_bound.new.names (bound_has (node_names node))
    (bound_has (name_forest (drop k nodes))) (bound_has (name_forest (drop (k + 1) nodes))) (bound_has (name_forest nodes))
    c.in_ok-add_all_bound.ensures
    (node_first (drop k nodes) (drop (k + 1) nodes) node (left_behind nodes k node c.loop-node-test.true c.node-item.is))
    c.loop-node.invariant

pub add_bound_in-returns : goal.add_bound_in-returns
add_bound_in-returns t c =
    let nodes = c.args.nodes.now in
    let k = c.loop-node.node-index in
    names_end c.args.names.now c.loop-node.names (bound_has (name_forest (drop k nodes))) (bound_has (name_forest nodes))
    (λ name. ap (λ xs. bound_has (name_forest xs) name) (drop_of_length-le nodes (omega (arith, c.loop-node-test.false))))
    c.loop-node.invariant
