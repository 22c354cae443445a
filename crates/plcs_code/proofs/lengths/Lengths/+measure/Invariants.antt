use Rattle.std.proofs.Common.{◌≡◌, ◌≤◌, ◌++◌, drop, length}
use Rattle.template_tree.specs.Programs.PlainTree.{forest, nodes}
use Rattle.template_tree.specs.Programs.Slots.{count}
use Rattle.plcs_code.specs.BlockLimit.{most_instrs}
use Rattle.plcs_code.specs.Gen.{node_lengths}
use Rattle.plcs_code.specs.Pieces.{first_length, other_lengths}
use Rattle.plcs_code.specs.Private.LaidCode.{listed_lengths}
use Rattle.plcs_code.proofs.lengths.Lengths.+measure.Given as goal

abbrev pub decreases-measure : goal.decreases-measure
decreases-measure g l = count l.node.now.inner

abbrev pub decreases-loop-k : goal.decreases-loop-k
decreases-loop-k g l = l.k

abbrev pub invariant-loop-k : goal.invariant-loop-k
invariant-loop-k g l = record {
  first : l.first ≡ first_length (node_lengths (g.M.Marked.marks l.marks) (g.D.Scope.items l.scope) (forest (drop l.k (nodes l.node.inner))));
  others : l.others ≡ other_lengths (node_lengths (g.M.Marked.marks l.marks) (g.D.Scope.items l.scope) (forest (drop l.k (nodes l.node.inner))));
  lengths : l.self ≡ listed_lengths (g.M.Marked.marks l.marks) (g.D.Scope.items l.scope) (forest (drop l.k (nodes l.node.inner))) ++ l.fn.self;
  within : l.k ≤ length (nodes l.node.inner);
  first_short : l.first ≤ most_instrs;
  others_short : l.others ≤ most_instrs;
  uncounted : g.W.Work.counts l.work ≡ g.W.Work.counts l.fn.work;
}
