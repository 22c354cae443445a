use Rattle.std.proofs.Common.{◌≡◌, None, length}
use Rattle.cursor_moves.specs.Private.NextPath.{LeadsOn, next_with}
use Rattle.cursor_moves.proofs.next_node.node_behind.Given as goal

abbrev pub invariant-loop-k : goal.invariant-loop-k
invariant-loop-k l = record {
  there : LeadsOn l.tree.items l.next.items;
  same : next_with None l.tree.items l.fn.path.items ≡ next_with None l.tree.items l.next.items;
}

abbrev pub decreases-loop-k : goal.decreases-loop-k
decreases-loop-k l = length l.next.items
