use Rattle.std.specs.Prelude.{◌≡◌, ◌≤◌, drop, length}
use Rattle.template_tree.specs.Programs.PlainTree.{nodes, forest}
use Rattle.template_tree.specs.Edits.Edit.{whole}
use Rattle.template_tree.specs.Programs.Slots.{count}
use Rattle.template_tree.proofs.Edits.RevealedNodes.{whole_after}
use Rattle.template_tree.proofs.build.+reveal.Given as goal

abbrev pub decreases-reveal : goal.decreases-reveal
decreases-reveal l = count (forest l.list.now.items)

abbrev pub invariant-loop-k : goal.invariant-loop-k
invariant-loop-k l = record {
  revealed : whole_after l.k l.list.items ≡ nodes (whole (forest l.fn.list.items));
  left : count (forest (drop l.k l.list.items)) ≤ count (forest l.fn.list.items);
  whole : length l.list.items ≡ length l.fn.list.items;
  room : l.list.spare ≡ l.fn.list.spare;
}
