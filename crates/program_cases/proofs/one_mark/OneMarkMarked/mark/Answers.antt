use Rattle.std.proofs.Common.{sym, ◌∙◌}
use Rattle.std.specs.declared.cmp.Ordering.{Ordering}
use Rattle.plcs_base.specs.declared.mark.MarkKind.{MarkKind}
use Rattle.program_cases.proofs.OneMarks.{told}
use Rattle.program_cases.proofs.one_mark.OneMarkMarked.mark.Goals as goal

pub returns-in-Equal : goal.returns-in-Equal
returns-in-Equal c = told c.args.self.now.0 c.args.at MarkKind.Undeclared Ordering.Equal (sym c.cmp.ensures ∙ c.in-Equal.is)

pub returns-in-Less : goal.returns-in-Less
returns-in-Less c = told c.args.self.now.0 c.args.at MarkKind.Undeclared Ordering.Less (sym c.cmp.ensures ∙ c.in-Less.is)

pub returns-in-Greater : goal.returns-in-Greater
returns-in-Greater c = told c.args.self.now.0 c.args.at MarkKind.Undeclared Ordering.Greater (sym c.cmp.ensures ∙ c.in-Greater.is)
