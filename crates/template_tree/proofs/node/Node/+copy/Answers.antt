use Rattle.std.specs.Prelude.{◌≡◌, ◌≤◌, map, false}
use Rattle.std.proofs.Common.{arith, subst, ap, sym, ◌∙◌}
use Rattle.template_tree.specs.Edits.Copy.{IsCopy}
use Rattle.template_tree.specs.Programs.PlainPhrasePlace.{plain_phrase_place}
use Rattle.template_tree.specs.Programs.PlainTree.{PlainNode, forest, roomless}
use Rattle.template_tree.specs.Edits.Edit.{whole}
use Rattle.template_tree.specs.contracts.node.Node.{the_view}
use Rattle.template_tree.specs.Private.Weight.{weight, forest_weight}
use Rattle.template_tree.proofs.Trees.Counts.{item_lighter}
use Rattle.template_tree.proofs.Trees.CopiedNodes.{all_copied, put_together, copy_subtree, copy_count, copy_depth}
use Rattle.template_tree.proofs.node.Node.+copy.Goals as goal

pub copy-requires : goal.copy-requires
copy-requires t c =
    let lighter : weight c.node-item.result ≤ forest_weight c.args.self.now.inner =
    subst (λ inner. weight c.node-item.result ≤ forest_weight inner) c.loop-node.invariant.nodes_are
    (item_lighter c.as_slice-node-items.result.now c.loop-node.node-index c.node-item.result c.loop-node-test.true c.node-item.is)
    in (omega (arith, lighter, c.decreases), tt)

pub returns : goal.returns
returns t c =
    let node : PlainNode = the_view c.self.inside in
    let inner : roomless (forest c.loop-node.inner.items) ≡ roomless (whole c.args.self.now.inner) =
    all_copied c.loop-node.inner.items c.as_slice-node-items.result.now c.loop-node.node-index c.args.self.now.inner
    c.loop-node-test.false c.loop-node.invariant.nodes_are c.loop-node.invariant.so_far
    in
    let same : roomless (forest c.loop-node.inner.items) ≡ roomless (whole node.inner) =
    inner ∙ ap (λ (n : PlainNode). roomless (whole n.inner)) (sym c.self.view_is)
    in
    let parts : map plain_phrase_place c.in-Ok.parts.items ≡ node.label.parts =
    c.in-Ok.ensures ∙ ap (map plain_phrase_place) c.as_slice.ensures.value
    in
    let copy : PlainNode =
    record {
      label = record node.label { parts = map plain_phrase_place c.in-Ok.parts.items; elided = false; spare = c.loop-node.inner.spare };
      inner = forest c.loop-node.inner.items;
    }
    in
    let is : IsCopy c.args.self.now copy =
    subst (λ n. IsCopy n copy) c.self.view_is
    (put_together node.label (map plain_phrase_place c.in-Ok.parts.items) (forest c.loop-node.inner.items) node.inner c.loop-node.inner.spare parts same)
    in
    record {
      copied = is;
      subtree = copy_subtree c.args.self.now copy is;
      slots = copy_count c.args.self.now copy is;
      depth = copy_depth c.args.self.now copy is;
    }
