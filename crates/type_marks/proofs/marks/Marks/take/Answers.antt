use Rattle.std.proofs.Common.{◌≡◌, ap, arith, subst}
use Rattle.std.specs.FinMap.{from_entries, remove}
use Rattle.template_tree.specs.Checks.Marks.{VerdictMap}
use Rattle.type_marks.specs.PlainMarks.{PlainMarks}
use Rattle.type_marks.proofs.CheckedDue.{took}
use Rattle.type_marks.proofs.marks.Marks.take.Goals as goal

pub returns-clause-verdicts : goal.returns-clause-verdicts
returns-clause-verdicts g c =
    subst (λ (m : PlainMarks). (let n : VerdictMap = from_entries c.swap_remove.new.self.entries in n) ≡ remove m.verdicts c.args.at) c.self.view_is
    (took c.args.at c.self.inside.verdicts.entries c.swap_remove.new.self.entries (λ q. c.swap_remove.ensures.updates.0 q))

pub returns-clause-room : goal.returns-clause-room
returns-clause-room g c = omega (arith, ap (λ (m : PlainMarks). m.spare) c.self.view_is, c.swap_remove.ensures.room.0)
