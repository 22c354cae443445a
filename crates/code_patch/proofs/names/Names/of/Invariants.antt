use Rattle.std.specs.Prelude.{◌≡◌, ◌≤◌, drop, length}
use Rattle.std.specs.FinMap.{from_entries}
use Rattle.template_tree.specs.Programs.PlainTree.{forest, nodes}
use Rattle.code_patch.specs.Private.ItemNames.{numbered_items}
use Rattle.code_patch.proofs.names.Names.of.Given as goal

abbrev pub decreases-loop-k : goal.decreases-loop-k
decreases-loop-k l = l.k

abbrev pub invariant-loop-k : goal.invariant-loop-k
invariant-loop-k l = record {
  noted : l.names ≡ from_entries (numbered_items l.k (forest (drop l.k (nodes l.tree.items))));
  within : l.k ≤ length (nodes l.tree.items);
}
