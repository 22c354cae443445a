use Rattle.std.proofs.Common.{◌≡◌, ◌≤◌, length}
use Rattle.type_marks.specs.MarkEdit.{with_all}
use Rattle.type_marks.proofs.marks.Marks.put_in.Given as goal

abbrev pub decreases-loop-at : goal.decreases-loop-at
decreases-loop-at g l = length l.rest.entries

abbrev pub invariant-loop-at : goal.invariant-loop-at
invariant-loop-at g l = record {
  left : with_all l.rest.entries l.self.verdicts ≡ with_all l.fn.checked.entries l.fn.self.verdicts;
  room : length l.rest.entries ≤ l.self.spare;
}
