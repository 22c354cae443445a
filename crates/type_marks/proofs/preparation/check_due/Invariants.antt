use Rattle.std.proofs.Common.{◌≤◌, length, take}
use Rattle.plcs_base.specs.PlainCounts.{ChecksAtMost}
use Rattle.type_marks.specs.Private.CheckedLists.{AreChecked, AreListsOf}
use Rattle.type_marks.proofs.preparation.check_due.Given as goal

abbrev pub invariant-loop-at : goal.invariant-loop-at
invariant-loop-at g l = record {
  checked : AreChecked l.tree.items (take l.at-index l.due) l.phrases.entries;
  few : length l.phrases.entries ≤ l.at-index;
  lists : AreListsOf l.tree.items l.lists.procedures.entries;
  counts : ChecksAtMost l.at-index (g.W.Work.counts l.fn.work) (g.W.Work.counts l.work);
}
