use Rattle.std.proofs.Common.{◌∙◌, sym, ap}
use Rattle.type_marks.specs.MarkEdit.{PlainMarkEdit}
use Rattle.type_marks.specs.Private.CheckedLists.{verdict_in}
use Rattle.type_marks.proofs.NotedVerdicts.{found}
use Rattle.type_marks.proofs.mark_edit.MarkEdit.verdict.Goals as goal

pub returns : goal.returns
returns g c =
    c.get.ensures.value
    ∙ sym (found c.self.inside.checked.entries c.args.at)
    ∙ ap (λ (e : PlainMarkEdit). verdict_in e.verdicts c.args.at) c.self.view_is
