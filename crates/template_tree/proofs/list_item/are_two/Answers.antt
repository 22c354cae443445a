use Rattle.std.specs.Prelude.{◌≡◌, ◌≤◌, drop, refl}
use Rattle.std.proofs.Common.{arith, ap}
use Rattle.std.proofs.Math.Bool.{false≢true}
use Rattle.std.proofs.lemmas.List.{drop_all}
use Rattle.template_tree.specs.Edits.ListItem.{how_many}
use Rattle.template_tree.specs.Programs.PlainTree.{forest}
use Rattle.template_tree.specs.Programs.Program.{sorts}
use Rattle.template_tree.proofs.Lists.BesidePaths.{next_counts, one_at_most}
use Rattle.template_tree.proofs.list_item.are_two.Goals as goal

pub returns-then-seen-eq2 : goal.returns-then-seen-eq2
returns-then-seen-eq2 c =
    let next = next_counts c.args.sort c.args.nodes.now c.loop-node.node-index c.node-item.result c.loop-node-test.true c.node-item.is in
    ((λ h. omega (arith, next, c.is_one-seen.ensures, c.if-seen-eq2.true, c.loop-node.invariant.counted)), (λ h. refl))

pub loop-node-preserved : goal.loop-node-preserved
loop-node-preserved c =
    let next = next_counts c.args.sort c.args.nodes.now c.loop-node.node-index c.node-item.result c.loop-node-test.true c.node-item.is in
    let one : c.is_one-seen.result ≤ 1 = omega (arith, c.is_one-seen.ensures, one_at_most c.args.sort c.node-item.result) in
    record {
      counted = omega (arith, next, c.is_one-seen.ensures, c.loop-node.invariant.counted);
      few = omega (arith, one, c.loop-node.invariant.few, c.if-seen-eq2.false);
    }

pub returns : goal.returns
returns c =
    let none : how_many c.args.sort (sorts (forest (drop c.loop-node.node-index c.args.nodes.now))) ≡ 0 =
    ap (λ items. how_many c.args.sort (sorts (forest items))) (drop_all c.loop-node.node-index c.args.nodes.now c.loop-node-test.false)
    in
    ((λ h. absurd (false≢true h)), (λ h. absurd (omega (arith, none, h, c.loop-node.invariant.counted, c.loop-node.invariant.few))))
