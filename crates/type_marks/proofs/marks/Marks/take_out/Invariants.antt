use Rattle.std.proofs.Common.{◌≤◌, take}
use Rattle.type_marks.proofs.CheckedDue.{IsTakenTo}
use Rattle.type_marks.proofs.marks.Marks.take_out.Given as goal

abbrev pub invariant-loop-at : goal.invariant-loop-at
invariant-loop-at g l = record {
  taken : IsTakenTo (take l.at-index l.gone) l.fn.self.verdicts l.self.verdicts;
  room : l.fn.self.spare ≤ l.self.spare;
}
