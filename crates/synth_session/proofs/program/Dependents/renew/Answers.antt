-- The table of declarations with the verdicts, and then the layout with the code, are prepared one after the other,
-- each for the tree before the edit: what is prepared leaves what the others ask.
use Rattle.std.proofs.Common.{subst, sym, ◌∙◌}
use Rattle.unparse_layout.specs.Agreement.{IsLayoutOf}
use Rattle.unparse_layout.specs.Bones.{PlainLayout}
use Rattle.synth_session.specs.ProgramBill.{program_bill}
use Rattle.synth_session.proofs.CountedPrograms.{program_checked, program_counted}
use Rattle.synth_session.proofs.PreparedPrograms.{refused_so, same_then}
use Rattle.synth_session.proofs.program.Dependents.renew.Goals as goal

-- ---- what the rest asks

pub renew_checked-requires-clause-layout_before : goal.renew_checked-requires-clause-layout_before
renew_checked-requires-clause-layout_before g c =
    let was = c.requires.before in (
      was.0,
      was.1.tree,
      subst (λ (l : PlainLayout). IsLayoutOf l was.0) (sym c.prepare_checks.ensures.same.layout) was.1.depend.layout,
      was.1.differs,
    )

pub renew_checked-requires-clause-code_before : goal.renew_checked-requires-clause-code_before
renew_checked-requires-clause-code_before g c =
    let was = c.requires.before in
    (was.0, was.1.tree, c.prepare_checks.ensures.same.code ∙ was.1.code, was.1.differs)

-- ---- memory ran out

pub returns-in-Ok-clause-same : goal.returns-in-Ok-clause-same
returns-in-Ok-clause-same g c =
    refused_so c.renew_checked.result
    (same_then c.args.self.now c.prepare_checks.new.self c.renew_checked.new.self c.prepare_checks.ensures.same)
    c.renew_checked.ensures.same

-- ---- what was counted

pub returns-in-Err-clause-counts : goal.returns-in-Err-clause-counts
returns-in-Err-clause-counts g c = λ before was. program_checked _ _ (c.prepare_checks.ensures.counts before was)

pub returns-in-Ok-clause-counts : goal.returns-in-Ok-clause-counts
unfolding program_bill
returns-in-Ok-clause-counts g c = λ before was.
    program_counted _ _ (c.prepare_checks.ensures.counts before was)
    (c.renew_checked.ensures.counts before was.tree (c.prepare_checks.ensures.same.code ∙ was.code) was.differs)
