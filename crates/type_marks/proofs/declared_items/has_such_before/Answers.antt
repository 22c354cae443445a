-- What the nodes from number k on declare before the slot has such an item exactly where all of them have: each node
-- that is passed by has none, and isn't in the slot. So the first node that decides, or the end, decides for all.
use Rattle.std.proofs.Common.{◌≡◌, ◌∙◌, ◌+◌, drop, sym, ap, arith}
use Rattle.std.proofs.lemmas.Option.{slice_get_within}
use Rattle.template_tree.specs.Programs.PlainTree.{Forest, forest, forest_nodes, nodes}
use Rattle.plcs_base.specs.ListLeft.{left_from, none_left}
use Rattle.template_tree.specs.Checks.Marks.{declared_before}
use Rattle.type_marks.specs.Private.DeclaredItems.{has_such}
use Rattle.type_marks.proofs.ChildLists.{such_behind, such_here, such_own}
use Rattle.type_marks.proofs.declared_items.has_such_before.Goals as goal

pub loop-node-init : goal.loop-node-init
loop-node-init c = record {
  left = ap (λ (ns : Forest). has_such c.args.name.now c.args.cells (declared_before ns c.args.slot.0)) (forest_nodes c.args.procedure.now.inner);
  within = omega arith;
}

pub overflow_add-k : goal.overflow_add-k
overflow_add-k c =
    let within = slice_get_within (nodes c.args.procedure.now.inner) c.loop-node.k c.in-Some.node.now (sym c.in-Some.ensures) in
    omega (arith, within, c.items_are_nodes.ensures.few c.args.procedure.now.inner, c.requires.few)

pub loop-node-smaller : goal.loop-node-smaller
loop-node-smaller c =
    let within = slice_get_within (nodes c.args.procedure.now.inner) c.loop-node.k c.in-Some.node.now (sym c.in-Some.ensures) in
    omega (arith, within)

pub returns-then-stands_in : goal.returns-then-stands_in
returns-then-stands_in c =
    let all = nodes c.args.procedure.now.inner in
    let k = c.loop-node.k in
    let node = c.in-Some.node.now in
    let rest = forest (drop (k + 1) all) in
    let first : forest (drop k all) ≡ Forest.cons node.label node.inner rest = ap forest (left_from all k node (sym c.in-Some.ensures)) in
    sym (such_own (forest (drop k all)) node rest first c.args.slot.0 c.args.name.now c.args.cells (sym c.stands_in.ensures ∙ c.if-stands_in.true))
    ∙ c.loop-node.invariant.left

pub returns-then-declares_such : goal.returns-then-declares_such
returns-then-declares_such c =
    let all = nodes c.args.procedure.now.inner in
    let k = c.loop-node.k in
    let node = c.in-Some.node.now in
    let rest = forest (drop (k + 1) all) in
    let first : forest (drop k all) ≡ Forest.cons node.label node.inner rest = ap forest (left_from all k node (sym c.in-Some.ensures)) in
    sym
    (such_here (forest (drop k all)) node rest first c.args.slot.0 c.args.name.now c.args.cells (sym c.stands_in.ensures ∙ c.if-stands_in.false)
    (sym c.declares_such.ensures ∙ c.if-declares_such.true))
    ∙ c.loop-node.invariant.left

pub loop-node-preserved : goal.loop-node-preserved
loop-node-preserved c =
    let all = nodes c.args.procedure.now.inner in
    let k = c.loop-node.k in
    let node = c.in-Some.node.now in
    let rest = forest (drop (k + 1) all) in
    let first : forest (drop k all) ≡ Forest.cons node.label node.inner rest = ap forest (left_from all k node (sym c.in-Some.ensures)) in
    record {
      left =
          such_behind (forest (drop k all)) node rest first c.args.slot.0 c.args.name.now c.args.cells (sym c.stands_in.ensures ∙ c.if-stands_in.false)
          (sym c.declares_such.ensures ∙ c.if-declares_such.false)
          ∙ c.loop-node.invariant.left;
      within = omega (arith, slice_get_within all k node (sym c.in-Some.ensures));
    }

pub returns : goal.returns
returns c =
    ap (λ ns. has_such c.args.name.now c.args.cells (declared_before (forest ns) c.args.slot.0))
    (sym (none_left (nodes c.args.procedure.now.inner) c.loop-node.k (sym c.in_default.ensures)))
    ∙ c.loop-node.invariant.left
