use Rattle.std.proofs.Common.{◌≡◌, ◌≤◌, drop, length}
use Rattle.plcs_base.specs.PlainCounts.{ChecksAtMost}
use Rattle.template_tree.specs.Checks.Marks.{node_verdicts}
use Rattle.template_tree.specs.Programs.PlainTree.{forest, nodes}
use Rattle.template_tree.specs.Programs.Slots.{count}
use Rattle.type_marks.specs.MarkEdit.{with_all}
use Rattle.type_marks.proofs.marks.Marks.+note_node.Given as goal

abbrev pub decreases-note_node : goal.decreases-note_node
decreases-note_node g l = count l.node.now.inner

abbrev pub decreases-loop-k : goal.decreases-loop-k
decreases-loop-k g l = l.k

abbrev pub invariant-loop-k : goal.invariant-loop-k
invariant-loop-k g l = record {
  noted : l.self.verdicts ≡ with_all (node_verdicts l.tree.items l.procedure (forest (drop l.k (nodes l.node.inner)))) l.fn.self.verdicts;
  within : l.k ≤ length (nodes l.node.inner);
  counts :
      ChecksAtMost (length (node_verdicts l.tree.items l.procedure (forest (drop l.k (nodes l.node.inner))))) (g.W.Work.counts l.fn.work)
      (g.W.Work.counts l.work);
}
