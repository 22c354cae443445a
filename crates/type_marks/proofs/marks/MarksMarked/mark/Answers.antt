use Rattle.std.proofs.Common.{◌∙◌, sym, ap}
use Rattle.std.specs.Option.{option_flatten}
use Rattle.type_marks.proofs.NotedVerdicts.{mark_at}
use Rattle.type_marks.proofs.marks.MarksMarked.mark.Goals as goal

pub returns-in-Some : goal.returns-in-Some
returns-in-Some g c =
    c.kind.ensures ∙ ap option_flatten c.in-Some.ensures ∙ sym (mark_at c.args.self.now.verdicts c.args.at)

pub returns-in-None : goal.returns-in-None
returns-in-None g c =
    ap option_flatten c.in-None.ensures ∙ sym (mark_at c.args.self.now.verdicts c.args.at)
