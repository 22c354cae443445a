use Rattle.std.specs.Prelude.{List}
use Rattle.std.proofs.Common.{ap}
use Rattle.plcs_base.specs.declared.declared.Declared.{Declared}
use Rattle.template_tree.specs.Checks.Verdict.{references_offence}
use Rattle.tree_steps.proofs.ListMarks.{list_marks_follow_items}
use Rattle.tree_steps.proofs.place_laws.list_marks_follow_items.Goals as goal

pub returns-clause-verdict : goal.returns-clause-verdict
returns-clause-verdict c one other procedure other_procedure slot other_slot targets same =
    ap (λ (items : List Declared). references_offence items targets) same

pub returns-clause-mark : goal.returns-clause-mark
returns-clause-mark c = list_marks_follow_items
