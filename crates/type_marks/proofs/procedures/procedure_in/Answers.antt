use Rattle.std.proofs.Common.{◌≡◌, ◌∙◌, ◌+◌, drop, sym, ap, arith}
use Rattle.std.proofs.lemmas.Option.{slice_get_within}
use Rattle.template_tree.specs.Programs.PlainTree.{Forest, forest, forest_nodes, nodes}
use Rattle.plcs_base.specs.ListLeft.{left_from, none_left}
use Rattle.template_tree.specs.Checks.Environment.{procedure_at}
use Rattle.type_marks.proofs.ProcedureLists.{found_behind, found_here}
use Rattle.type_marks.proofs.procedures.procedure_in.Goals as goal

pub loop-node-init : goal.loop-node-init
loop-node-init c = record {
  left = ap (λ (ns : Forest). procedure_at ns c.args.slot.0) (forest_nodes c.args.tree.now.items);
  within = omega arith;
}

pub overflow_add-k : goal.overflow_add-k
overflow_add-k c =
    let within = slice_get_within (nodes c.args.tree.now.items) c.loop-node.k c.in-Some.node.now (sym c.in-Some.ensures.item) in
    omega (arith, within, c.items_are_nodes.ensures.few c.args.tree.now.items, c.requires.tree.few)

pub loop-node-smaller : goal.loop-node-smaller
loop-node-smaller c =
    let within = slice_get_within (nodes c.args.tree.now.items) c.loop-node.k c.in-Some.node.now (sym c.in-Some.ensures.item) in
    omega (arith, within)

pub returns-then-stands_in : goal.returns-then-stands_in
returns-then-stands_in c =
    let all = nodes c.args.tree.now.items in
    let k = c.loop-node.k in
    let node = c.in-Some.node.now in
    let rest = forest (drop (k + 1) all) in
    let first : forest (drop k all) ≡ Forest.cons node.label node.inner rest = ap forest (left_from all k node (sym c.in-Some.ensures.item)) in
    sym (found_here (forest (drop k all)) node rest first c.args.slot.0 (sym c.stands_in.ensures ∙ c.if-stands_in.true))
    ∙ c.loop-node.invariant.left

pub loop-node-preserved : goal.loop-node-preserved
loop-node-preserved c =
    let all = nodes c.args.tree.now.items in
    let k = c.loop-node.k in
    let node = c.in-Some.node.now in
    let rest = forest (drop (k + 1) all) in
    let first : forest (drop k all) ≡ Forest.cons node.label node.inner rest = ap forest (left_from all k node (sym c.in-Some.ensures.item)) in
    record {
      left =
          found_behind (forest (drop k all)) node rest first c.args.slot.0 (sym c.stands_in.ensures ∙ c.if-stands_in.false)
          ∙ c.loop-node.invariant.left;
      within = omega (arith, slice_get_within all k node (sym c.in-Some.ensures.item));
    }

pub returns : goal.returns
returns c =
    ap (λ ns. procedure_at (forest ns) c.args.slot.0) (sym (none_left (nodes c.args.tree.now.items) c.loop-node.k (sym c.in_default.ensures.item)))
    ∙ c.loop-node.invariant.left
