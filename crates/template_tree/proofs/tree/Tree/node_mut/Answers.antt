use Rattle.std.specs.Prelude.{◌≡◌, ◌∷◌, ◌+◌, ◌<◌, ◌≤◌, length, option_map}
use Rattle.std.proofs.Common.{sym, ◌∙◌, arith}
use mathlib.Core.Path.{fun_ext}
use borrow.Follows.Closed.{read_of}
use Rattle.std.specs.Option.{ghost_name_of}
use Rattle.template_tree.specs.Programs.Limit.{most_slots}
use Rattle.template_tree.specs.Programs.PlainTree.{nodes}
use Rattle.template_tree.specs.Positions.Path.{node_at}
use Rattle.template_tree.specs.Programs.Program.{IsSubtree}
use Rattle.template_tree.specs.Programs.Slots.{count}
use Rattle.template_tree.proofs.Trees.Counts.{counted_below, items_few}
use Rattle.template_tree.proofs.Trees.LentNodes.{both}
use Rattle.template_tree.proofs.Trees.PutNodes.{put_in_tree, found_in_tree}
use Rattle.template_tree.proofs.Trees.Subtrees.{subtree_at, lent}
use Rattle.template_tree.proofs.tree.Tree.node_mut.Goals as goal

pub returns : goal.returns
returns c =
    let list = c.self.inside.items in
    let items = c.args.self.now.items in
    let path = c.args.path.now.items in
    let way : path ≡ c.in-Some.k.now ∷ c.in-Some.rest.now = sym c.deref.ensures.0 ∙ c.in-Some.ensures.cases.0 in
    let found : option_map (λ node. node.now) c.down.result ≡ node_at items path =
    c.down.ensures.found
    ∙ found_in_tree list c.self.inside.drawn c.self.inside.live c.args.self.now path c.in-Some.k.now c.in-Some.rest.now c.self.view_is way
    in (
      both (read_of (ghost_name_of c.down.result))
          (fun_ext
          (put_in_tree list c.self.inside.drawn c.self.inside.live c.args.self.now path c.in-Some.k.now c.in-Some.rest.now c.self.view_is way))
          c.self.view_is,
      record {
        writes_back = tt;
        found = found;
        subtree =
            lent (λ node. node.now) IsSubtree (node_at items path)
            (λ node there. subtree_at items path node c.requires.tree.program.sound there) c.down.result found;
        few =
            lent (λ node. node.now) (λ node. count node.inner + 1 ≤ most_slots) (node_at items path)
            (λ node there. omega (arith, counted_below items path node there, c.requires.tree.few)) c.down.result found;
        children_few =
            lent (λ node. node.now) (λ node. length (nodes node.inner) < most_slots) (node_at items path)
            (λ node there. omega (arith, counted_below items path node there, items_few node.inner, c.requires.tree.few)) c.down.result found;
      },
    )
