use Rattle.std.proofs.Common.{◌∙◌, sym, ap}
use Rattle.std.specs.FinMap.{get}
use Rattle.type_marks.specs.PlainMarks.{PlainMarks}
use Rattle.type_marks.proofs.NotedVerdicts.{found}
use Rattle.type_marks.proofs.marks.Marks.verdict.Goals as goal

pub returns : goal.returns
returns g c =
    c.get.ensures.value ∙ sym (found c.self.inside.verdicts.entries c.args.at)
    ∙ ap (λ (m : PlainMarks). get m.verdicts c.args.at) c.self.view_is
