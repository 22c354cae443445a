use Rattle.std.proofs.Common.{◌≡◌, ◌∙◌, ◌+◌, ◌-◌, ◌≤◌, Some, None, drop, length, slice_get, sym, ap, subst, arith}
use Rattle.std.proofs.Math.ListN.{drop_of_length-le}
use Rattle.template_tree.specs.Positions.Path.{node_at}
use Rattle.template_tree.specs.Programs.PlainTree.{Forest, forest, forest_nodes, nodes}
use Rattle.decl_table.specs.Private.DeclsView.{IsRead}
use Rattle.plcs_base.specs.ListLeft.{left_from, past_where_none}
use Rattle.decl_table.proofs.ReadProcedures.{read_next, read_none}
use Rattle.decl_table.proofs.decls.Decls.take_all.Goals as goal

pub overflow_add-k : goal.overflow_add-k
overflow_add-k c =
    omega (arith, c.procedures-k.ensures, c.items_are_nodes.ensures.few c.args.tree.now.items, c.requires.tree.few)

pub loop-k-init : goal.loop-k-init
loop-k-init c =
    let all = nodes c.args.tree.now.items in
    let past : length all ≤ c.procedures-k.result + 1 = omega (arith, c.procedures-k.ensures) in
    record {
      read =
          subst (λ rest. IsRead c.args.self.now (forest rest)) (sym (drop_of_length-le all past))
          (read_none c.args.self.now c.requires.items c.requires.headings);
      within = omega (arith, c.procedures-k.ensures);
    }

pub loop-k-preserved : goal.loop-k-preserved
loop-k-preserved c =
    let items = c.args.tree.now.items in
    let all = nodes items in
    let k = c.loop-k.k in
    let node = c.in-Some.procedure.now in
    let there : slice_get all (k - 1) ≡ Some node =
    sym (ap (node_at items) c.path_of_item.ensures ∙ c.items_are_nodes.ensures.found items (k - 1)) ∙ sym c.in-Some.ensures.found in
    let next : k - 1 + 1 ≡ k = omega (arith, c.loop-k-test.true) in
    record {
      read =
          read_next c.loop-k.self c.take.new.self node (forest (drop (k - 1) all)) (forest (drop k all))
          (ap forest (left_from all (k - 1) node there) ∙ ap (λ n. Forest.cons node.label node.inner (forest (drop n all))) next)
          c.in_ok-take.ensures c.loop-k.invariant.read;
      within = omega (arith, c.loop-k.invariant.within);
    }

pub unreachable-requires : goal.unreachable-requires
unreachable-requires c =
    let items = c.args.tree.now.items in
    let none : slice_get (nodes items) (c.loop-k.k - 1) ≡ None =
    sym (ap (node_at items) c.path_of_item.ensures ∙ c.items_are_nodes.ensures.found items (c.loop-k.k - 1)) ∙ sym c.in_default.ensures.found in
    omega (arith, past_where_none (nodes items) (c.loop-k.k - 1) none, c.loop-k-test.true, c.loop-k.invariant.within)

pub returns : goal.returns
returns c =
    let items = c.args.tree.now.items in
    let none : c.loop-k.k ≡ 0 = omega (arith, c.loop-k-test.false) in
    subst (IsRead c.loop-k.self) (forest_nodes items)
    (subst (λ k. IsRead c.loop-k.self (forest (drop k (nodes items)))) none c.loop-k.invariant.read)
