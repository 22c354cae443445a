use Rattle.std.proofs.Common.{◌≡◌, ◌≤◌, drop, length}
use Rattle.std.specs.FinMap.{from_entries}
use Rattle.plcs_base.specs.PlainCounts.{ChecksAtMost}
use Rattle.template_tree.specs.Checks.Marks.{VerdictMap, procedure_verdicts}
use Rattle.template_tree.specs.Programs.PlainTree.{forest, nodes}
use Rattle.type_marks.proofs.marks.Marks.new.Given as goal

abbrev pub decreases-loop-k : goal.decreases-loop-k
decreases-loop-k g l = l.k

abbrev pub invariant-loop-k : goal.invariant-loop-k
invariant-loop-k g l = record {
  noted : l.marks.verdicts ≡ (let m : VerdictMap = from_entries (procedure_verdicts l.tree.items (forest (drop l.k (nodes l.tree.items)))) in m);
  within : l.k ≤ length (nodes l.tree.items);
  counts :
      ChecksAtMost (length (procedure_verdicts l.tree.items (forest (drop l.k (nodes l.tree.items))))) (g.W.Work.counts l.fn.work) (g.W.Work.counts l.work);
}
