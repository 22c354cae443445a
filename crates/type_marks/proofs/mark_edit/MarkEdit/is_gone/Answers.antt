use Rattle.std.proofs.Common.{◌∙◌, sym, ap}
use Rattle.type_marks.specs.MarkEdit.{PlainMarkEdit}
use Rattle.type_marks.specs.Private.CheckedLists.{is_due}
use Rattle.type_marks.proofs.CheckedDue.{tests}
use Rattle.type_marks.proofs.mark_edit.MarkEdit.is_gone.Goals as goal

pub returns : goal.returns
returns g c =
    c.contains.ensures
    ∙ sym (tests c.args.at c.self.inside.gone.keys)
    ∙ ap (λ (e : PlainMarkEdit). is_due c.args.at e.gone) c.self.view_is
