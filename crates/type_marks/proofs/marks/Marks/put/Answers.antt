use Rattle.std.proofs.Common.{◌≡◌, ap, sym, arith, subst, true≢false}
use Rattle.std.specs.FinMap.{from_entries, insert}
use Rattle.template_tree.specs.Checks.Marks.{VerdictMap}
use Rattle.type_marks.specs.PlainMarks.{PlainMarks}
use Rattle.type_marks.proofs.NotedVerdicts.{put}
use Rattle.type_marks.proofs.marks.Marks.put.Goals as goal

pub unreachable-requires : goal.unreachable-requires
unreachable-requires g c =
    true≢false (sym (c.in-Err.ensures.succeeds (omega (arith, ap (λ (m : PlainMarks). m.spare) c.self.view_is, c.requires.room))))

pub returns-clause-verdicts : goal.returns-clause-verdicts
returns-clause-verdicts g c =
    subst
    (λ (m : PlainMarks). (let n : VerdictMap = from_entries c.insert.new.self.entries in n) ≡ insert m.verdicts c.args.at c.args.verdict)
    c.self.view_is
    (put c.args.at c.args.verdict c.self.inside.verdicts.entries c.insert.new.self.entries (λ q. c.in-Ok.ensures.updates.0 q))

pub returns-clause-room : goal.returns-clause-room
returns-clause-room g c = omega (arith, ap (λ (m : PlainMarks). m.spare) c.self.view_is, c.in-Ok.ensures.spare)
