-- Among the procedures from number k on, before the slot, one has the name exactly where one of all has: each that is
-- passed by hasn't, and isn't in the slot. So the first that decides, or the end, decides for all.
use Rattle.std.proofs.Common.{◌≡◌, ◌∙◌, ◌+◌, drop, sym, ap, arith}
use Rattle.std.proofs.lemmas.Option.{slice_get_within}
use Rattle.std.specs.Prelude.{is_some}
use Rattle.template_tree.specs.Programs.PlainTree.{Forest, forest, forest_nodes, nodes}
use Rattle.plcs_base.specs.ListLeft.{left_from, none_left}
use Rattle.template_tree.specs.Checks.Environment.{Sig}
use Rattle.template_tree.specs.Checks.Marks.{procedures_before}
use Rattle.type_marks.proofs.ProcedureLists.{named_behind, named_here, named_own}
use Rattle.type_marks.proofs.procedures.is_named_before.Goals as goal

pub loop-node-init : goal.loop-node-init
loop-node-init c = record {
  left = ap (λ (ns : Forest). is_some (Sig (procedures_before ns c.args.slot.0) c.args.name.now)) (forest_nodes c.args.tree.now.items);
  within = omega arith;
}

pub overflow_add-k : goal.overflow_add-k
overflow_add-k c =
    let within = slice_get_within (nodes c.args.tree.now.items) c.loop-node.k c.in-Some.node.now (sym c.in-Some.ensures.item) in
    omega (arith, within, c.items_are_nodes.ensures.few c.args.tree.now.items, c.requires.tree.few)

pub loop-node-smaller : goal.loop-node-smaller
loop-node-smaller c =
    let within = slice_get_within (nodes c.args.tree.now.items) c.loop-node.k c.in-Some.node.now (sym c.in-Some.ensures.item) in
    omega (arith, within)

pub returns-then-stands_in : goal.returns-then-stands_in
returns-then-stands_in c =
    let all = nodes c.args.tree.now.items in
    let k = c.loop-node.k in
    let node = c.in-Some.node.now in
    let rest = forest (drop (k + 1) all) in
    let first : forest (drop k all) ≡ Forest.cons node.label node.inner rest = ap forest (left_from all k node (sym c.in-Some.ensures.item)) in
    sym (named_own (forest (drop k all)) node rest first c.args.slot.0 c.args.name.now (sym c.stands_in.ensures ∙ c.if-stands_in.true))
    ∙ c.loop-node.invariant.left

pub returns-then-may_be_called_by : goal.returns-then-may_be_called_by
returns-then-may_be_called_by c =
    let all = nodes c.args.tree.now.items in
    let k = c.loop-node.k in
    let node = c.in-Some.node.now in
    let rest = forest (drop (k + 1) all) in
    let first : forest (drop k all) ≡ Forest.cons node.label node.inner rest = ap forest (left_from all k node (sym c.in-Some.ensures.item)) in
    sym
    (named_here (forest (drop k all)) node rest first c.args.slot.0 c.args.name.now (sym c.stands_in.ensures ∙ c.if-stands_in.false)
    (sym c.may_be_called_by.ensures ∙ c.if-may_be_called_by.true))
    ∙ c.loop-node.invariant.left

pub loop-node-preserved : goal.loop-node-preserved
loop-node-preserved c =
    let all = nodes c.args.tree.now.items in
    let k = c.loop-node.k in
    let node = c.in-Some.node.now in
    let rest = forest (drop (k + 1) all) in
    let first : forest (drop k all) ≡ Forest.cons node.label node.inner rest = ap forest (left_from all k node (sym c.in-Some.ensures.item)) in
    record {
      left =
          named_behind (forest (drop k all)) node rest first c.args.slot.0 c.args.name.now (sym c.stands_in.ensures ∙ c.if-stands_in.false)
          (sym c.may_be_called_by.ensures ∙ c.if-may_be_called_by.false)
          ∙ c.loop-node.invariant.left;
      within = omega (arith, slice_get_within all k node (sym c.in-Some.ensures.item));
    }

pub returns : goal.returns
returns c =
    ap (λ ns. is_some (Sig (procedures_before (forest ns) c.args.slot.0) c.args.name.now))
    (sym (none_left (nodes c.args.tree.now.items) c.loop-node.k (sym c.in_default.ensures.item)))
    ∙ c.loop-node.invariant.left
