use Rattle.std.specs.Prelude.{◌≤◌}
use Rattle.std.proofs.Common.{arith, sym, subst}
use Rattle.template_tree.specs.Programs.Limit.{deepest_path, most_slots}
use Rattle.template_tree.specs.Programs.PlainTree.{forest}
use Rattle.template_tree.specs.Programs.Slots.{count, depth}
use Rattle.template_tree.specs.Programs.Tree.{IsTree}
use Rattle.template_tree.proofs.Trees.DrawnSlots.{built_is, built_is_tree}
use Rattle.template_tree.proofs.tree.Tree.built.Goals as goal

pub returns-clause-built : goal.returns-clause-built
returns-clause-built c =
    built_is c.args.items c.draw_slots.new.list c.as_slice-2.result.now c.in-Some.left most_slots c.as_slice-2.ensures c.in-Some.ensures.left
    c.draw_slots.ensures.drawn

pub returns-clause-tree : goal.returns-clause-tree
returns-clause-tree c =
    let is =
    built_is c.args.items c.draw_slots.new.list c.as_slice-2.result.now c.in-Some.left most_slots c.as_slice-2.ensures c.in-Some.ensures.left
    c.draw_slots.ensures.drawn
    in
    let deep : depth (forest c.as_slice.result.now) ≤ deepest_path = c.is_within_depth.ensures.0 c.if-not-is_within_depth.false in
    let shallow : depth (forest c.args.items.items) ≤ deepest_path = subst (λ items. depth (forest items) ≤ deepest_path) c.as_slice.ensures deep in
    let few : count (forest c.args.items.items) ≤ most_slots =
    subst (λ items. count (forest items) ≤ most_slots) c.as_slice-2.ensures (omega (arith, c.in-Some.ensures.left))
    in
    subst IsTree (sym is) (built_is_tree c.args.items c.requires.program shallow few)
