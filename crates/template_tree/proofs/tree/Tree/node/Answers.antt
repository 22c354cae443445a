use Rattle.std.specs.Prelude.{◌≡◌, ◌∷◌, ◌+◌, ◌<◌, ◌≤◌, length, option_map, option_and_then}
use Rattle.std.proofs.Common.{ap, sym, ◌∙◌, arith}
use Rattle.template_tree.specs.Programs.Limit.{most_slots}
use Rattle.template_tree.specs.Programs.PlainTree.{nodes}
use Rattle.template_tree.specs.Positions.Path.{below, node_at}
use Rattle.template_tree.specs.Programs.Program.{IsSubtree}
use Rattle.template_tree.specs.Programs.Slots.{count}
use Rattle.template_tree.proofs.Trees.Counts.{counted_below, items_few}
use Rattle.template_tree.proofs.Trees.PutNodes.{found_in_tree}
use Rattle.template_tree.proofs.Trees.Subtrees.{subtree_at, lent}
use Rattle.template_tree.proofs.tree.Tree.node.Goals as goal

pub returns : goal.returns
returns c =
    let items = c.args.self.now.items in
    let path = c.args.path.now.items in
    let rest = c.in-Some.rest.now in
    let way : path ≡ c.in-Some.k.now ∷ rest = sym c.deref.ensures.0 ∙ c.in-Some.ensures.cases.0 in
    let found : option_map (λ node. node.now) c.below.result ≡ node_at items path =
    c.below.ensures
    ∙ (ap (option_and_then (λ item. below item rest)) c.in-Some-get.ensures
    ∙ found_in_tree c.self.inside.items c.self.inside.drawn c.self.inside.live c.args.self.now path c.in-Some.k.now rest c.self.view_is way)
    in
    record {
      found = found;
      subtree =
          lent (λ node. node.now) IsSubtree (node_at items path)
          (λ node there. subtree_at items path node c.requires.tree.program.sound there) c.below.result found;
      few =
          lent (λ node. node.now) (λ node. count node.inner + 1 ≤ most_slots) (node_at items path)
          (λ node there. omega (arith, counted_below items path node there, c.requires.tree.few)) c.below.result found;
      children_few =
          lent (λ node. node.now) (λ node. length (nodes node.inner) < most_slots) (node_at items path)
          (λ node there. omega (arith, counted_below items path node there, items_few node.inner, c.requires.tree.few)) c.below.result found;
    }
