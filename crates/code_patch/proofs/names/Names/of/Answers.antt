use Rattle.std.proofs.Common.{◌≡◌, ◌+◌, ◌-◌, List, Some, [], drop, slice_get, sym, ap, ◌∙◌, arith}
use Rattle.std.proofs.Math.ListN.{drop_of_length-le}
use Rattle.std.specs.FinMap.{from_entries}
use Rattle.template_tree.specs.Positions.Path.{node_at}
use Rattle.template_tree.specs.Programs.PlainTree.{Forest, PlainNode, forest, forest_nodes, nodes}
use Rattle.plcs_base.specs.ListLeft.{past_where_none}
use Rattle.code_patch.specs.ItemNames.{NumberMap}
use Rattle.code_patch.specs.Private.ItemNames.{numbered_items}
use Rattle.code_patch.proofs.NameMaps.{item_noted}
use Rattle.code_patch.proofs.names.Names.of.Goals as goal

pub overflow_add-k : goal.overflow_add-k
overflow_add-k c =
    omega (arith, c.procedures-k.ensures, c.items_are_nodes.ensures.few c.args.tree.now.items, c.requires.tree.few)

pub loop-k-init : goal.loop-k-init
loop-k-init c =
    let all = nodes c.args.tree.now.items in
    let past : drop (c.procedures-k.result + 1) all ≡ [] = drop_of_length-le all (omega (arith, c.procedures-k.ensures)) in
    record {
      noted =
          c.new-names.ensures
          ∙ ap (λ (ns : List PlainNode). let m : NumberMap = from_entries (numbered_items (c.procedures-k.result + 1) (forest ns)) in m) (sym past);
      within = omega (arith, c.procedures-k.ensures);
    }

pub loop-k-preserved : goal.loop-k-preserved
loop-k-preserved c =
    let program = c.args.tree.now.items in
    let k = c.loop-k.k in
    let item = c.in-Some.item.now in
    let next : k - 1 + 1 ≡ k = omega (arith, c.loop-k-test.true) in
    let there : slice_get (nodes program) (k - 1) ≡ Some item =
    sym (ap (node_at program) c.path_of_item.ensures ∙ c.items_are_nodes.ensures.found program (k - 1)) ∙ sym c.in-Some.ensures.found in
    record {
      noted =
          c.in_ok-note.ensures
          ∙ item_noted program (k - 1) item c.loop-k.names there
          (c.loop-k.invariant.noted
          ∙ ap (λ n. let m : NumberMap = from_entries (numbered_items n (forest (drop n (nodes program)))) in m) (sym next));
      within = omega (arith, c.loop-k.invariant.within);
    }

pub unreachable-requires : goal.unreachable-requires
unreachable-requires c =
    let program = c.args.tree.now.items in
    let k = c.loop-k.k in
    let past = past_where_none (nodes program) (k - 1)
    (sym (ap (node_at program) c.path_of_item.ensures ∙ c.items_are_nodes.ensures.found program (k - 1)) ∙ sym c.in_default.ensures.found) in
    omega (arith, past, c.loop-k-test.true, c.loop-k.invariant.within)

pub returns : goal.returns
returns c =
    let none : c.loop-k.k ≡ 0 = omega (arith, c.loop-k-test.false) in
    c.loop-k.invariant.noted
    ∙ ap (λ k. let m : NumberMap = from_entries (numbered_items k (forest (drop k (nodes c.args.tree.now.items)))) in m) none
    ∙ ap (λ (f : Forest). let m : NumberMap = from_entries (numbered_items 0 f) in m) (forest_nodes c.args.tree.now.items)
