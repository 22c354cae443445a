use Rattle.std.proofs.Common.{◌∙◌, sym, ap}
use Rattle.std.specs.FinMap.{get}
use Rattle.plcs_base.specs.Mark.{MarkMap}
use Rattle.type_marks.proofs.AfterMarks.{marked_due, marked_gone, marked_kept}
use Rattle.type_marks.proofs.mark_edit.MarksAfterMarked.mark.Goals as goal

pub returns-in-Some : goal.returns-in-Some
returns-in-Some g c =
    c.kind.ensures
    ∙ marked_due c.self.inside.edit.now c.self.inside.marks.now.verdicts c.args.at c.in-Some.verdict.now (sym c.in-Some.ensures)
    ∙ ap (λ (m : MarkMap). get m c.args.at) c.self.view_is

pub returns-then-is_gone : goal.returns-then-is_gone
returns-then-is_gone g c =
    marked_gone c.self.inside.edit.now c.self.inside.marks.now.verdicts c.args.at (sym c.in_default.ensures) (sym c.is_gone.ensures ∙ c.if-is_gone.true)
    ∙ ap (λ (m : MarkMap). get m c.args.at) c.self.view_is

pub returns : goal.returns
returns g c =
    c.mark.ensures
    ∙ marked_kept c.self.inside.edit.now c.self.inside.marks.now.verdicts c.args.at (sym c.in_default.ensures) (sym c.is_gone.ensures ∙ c.if-is_gone.false)
    ∙ ap (λ (m : MarkMap). get m c.args.at) c.self.view_is
