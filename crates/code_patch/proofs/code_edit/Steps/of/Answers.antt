use Rattle.std.proofs.Common.{ap, ◌∙◌}
use Rattle.code_patch.specs.CodeEdit.{CodeEdit}
use Rattle.code_patch.specs.Private.StepsView.{steps_onto}
use Rattle.code_patch.proofs.MadeSteps.{onto_reverse}
use Rattle.code_patch.proofs.code_edit.Steps.of.Goals as goal

pub returns : goal.returns
returns g c = ap (λ steps. steps_onto steps CodeEdit.done) c.reverse.ensures.items ∙ onto_reverse c.args.list.items
