use Rattle.std.proofs.Common.{◌≡◌, ◌+◌, ◌≤◌, ◌++◌, [], drop, length}
use Rattle.std.specs.Prelude.{sum}
use Rattle.template_tree.specs.Programs.PlainTree.{forest, nodes}
use Rattle.plcs_code.specs.BlockLimit.{most_instrs}
use Rattle.plcs_code.specs.Gen.{node_lengths}
use Rattle.plcs_code.specs.Private.LaidCode.{listed_lengths}
use Rattle.plcs_code.proofs.lengths.Lengths.of.Given as goal

abbrev pub decreases-loop-k : goal.decreases-loop-k
decreases-loop-k g l = l.k

abbrev pub invariant-loop-k : goal.invariant-loop-k
invariant-loop-k g l = record {
  lengths : l.lengths ≡ listed_lengths (g.M.Marked.marks l.marks) (g.D.Scope.items l.scope) (forest (drop l.k (nodes l.tree.items))) ++ [];
  total : l.total ≡ sum (node_lengths (g.M.Marked.marks l.marks) (g.D.Scope.items l.scope) (forest (drop l.k (nodes l.tree.items))));
  short : l.total + 2 ≤ most_instrs;
  within : l.k ≤ length (nodes l.tree.items);
  uncounted : g.W.Work.counts l.work ≡ g.W.Work.counts l.fn.work;
}
