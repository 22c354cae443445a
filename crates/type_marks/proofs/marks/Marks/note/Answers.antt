use Rattle.std.proofs.Common.{◌≡◌, ap, subst}
use Rattle.std.specs.FinMap.{from_entries, insert}
use Rattle.template_tree.specs.Checks.Marks.{VerdictMap}
use Rattle.type_marks.specs.PlainMarks.{PlainMarks}
use Rattle.type_marks.proofs.NotedVerdicts.{put}
use Rattle.type_marks.proofs.marks.Marks.note.Goals as goal

pub returns : goal.returns
returns g c =
    subst (λ (m : VerdictMap). from_entries c.insert.new.self.entries ≡ insert m c.args.at c.args.verdict) (ap (λ (m : PlainMarks). m.verdicts) c.self.view_is)
    (put c.args.at c.args.verdict c.self.inside.verdicts.entries c.insert.new.self.entries (λ q. c.in_ok-insert.ensures.updates.0 q))
