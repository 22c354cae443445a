use Rattle.std.specs.Prelude.{◌≡◌, ◌==◌, false, Some, None, slice_get}
use Rattle.std.proofs.Common.{ap, sym, ◌∙◌, arith}
use Rattle.std.proofs.lemmas.Bool.{eqb-true}
use Rattle.std.proofs.lemmas.Option.{slice_get_within}
use Rattle.template_tree.specs.Checks.Environment.{procedure_at}
use Rattle.template_tree.specs.Positions.Path.{node_at}
use Rattle.template_tree.specs.Programs.PlainTree.{Forest, forest_nodes, nodes}
use Rattle.suspend_state.proofs.ProcedureNodes.{found_procedure, later_procedure, no_procedure}
use Rattle.suspend_state.proofs.kept_copy.procedure_node.Goals as goal

pub loop-node-init : goal.loop-node-init
loop-node-init c =
    record {
      left = ap (λ (items : Forest). procedure_at items c.args.procedure.0) (forest_nodes c.args.tree.now.items);
      within = omega arith;
    }

pub returns-then-eq-clause-found : goal.returns-then-eq-clause-found
returns-then-eq-clause-found c =
    let items = c.args.tree.now.items in
    let k = c.loop-node.k in
    let node = c.in-Some.node.now in
    let there : slice_get (nodes items) k ≡ Some node =
    sym (c.items_are_nodes.ensures.found items k) ∙ ap (node_at items) (sym c.path_of_item.ensures) ∙ sym c.in-Some.ensures.found in
    let same = sym c.slot.ensures ∙ eqb-true c.slot.result.0 c.args.procedure.0 (sym c.eq.ensures ∙ c.if-eq.true) in
    sym (found_procedure items k node c.args.procedure.0 there same) ∙ c.loop-node.invariant.left

pub loop-node-smaller : goal.loop-node-smaller
loop-node-smaller c =
    let items = c.args.tree.now.items in
    let k = c.loop-node.k in
    let there : slice_get (nodes items) k ≡ Some c.in-Some.node.now =
    sym (c.items_are_nodes.ensures.found items k) ∙ ap (node_at items) (sym c.path_of_item.ensures) ∙ sym c.in-Some.ensures.found in
    let within = slice_get_within (nodes items) k c.in-Some.node.now there in
    omega (arith, within)

pub loop-node-preserved : goal.loop-node-preserved
loop-node-preserved c =
    let items = c.args.tree.now.items in
    let k = c.loop-node.k in
    let node = c.in-Some.node.now in
    let there : slice_get (nodes items) k ≡ Some node =
    sym (c.items_are_nodes.ensures.found items k) ∙ ap (node_at items) (sym c.path_of_item.ensures) ∙ sym c.in-Some.ensures.found in
    let other : (node.label.slot == c.args.procedure.0) ≡ false =
    ap (λ n. n == c.args.procedure.0) (sym c.slot.ensures) ∙ sym c.eq.ensures ∙ c.if-eq.false in
    let within = slice_get_within (nodes items) k node there in
    record {
      left = sym (later_procedure items k node c.args.procedure.0 there other) ∙ c.loop-node.invariant.left;
      within = omega (arith, within);
    }

pub returns-clause-found : goal.returns-clause-found
returns-clause-found c =
    let items = c.args.tree.now.items in
    let k = c.loop-node.k in
    let none : slice_get (nodes items) k ≡ None =
    sym (c.items_are_nodes.ensures.found items k) ∙ ap (node_at items) (sym c.path_of_item.ensures) ∙ sym c.in_default.ensures.found in
    sym (no_procedure items k c.args.procedure.0 none) ∙ c.loop-node.invariant.left
