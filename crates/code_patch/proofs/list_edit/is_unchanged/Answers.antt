use Rattle.std.specs.Prelude.{vec_len}
use Rattle.std.proofs.Common.{arith, eqb-true, false-eqb, sym, true≢false, ◌∙◌}
use Rattle.code_patch.proofs.list_edit.is_unchanged.Goals as goal

pub returns-then-is_some-clause-same : goal.returns-then-is_some-clause-same
returns-then-is_some-clause-same g c = λ yes. absurd (true≢false (sym yes))

pub returns-then-is_some-clause-changed : goal.returns-then-is_some-clause-changed
returns-then-is_some-clause-changed g c = λ no none. absurd (true≢false (sym (sym c.is_some.ensures ∙ c.if-is_some.true) ∙ none))

pub returns-clause-same : goal.returns-clause-same
returns-clause-same g c = λ yes.
    let steps = c.args.list.now.steps in
    (sym c.is_some.ensures ∙ c.if-is_some.false, omega (arith, eqb-true (vec_len steps) 0 (sym c.is_empty.ensures ∙ yes), steps.ok.0))

pub returns-clause-changed : goal.returns-clause-changed
returns-clause-changed g c = λ no none.
    let steps = c.args.list.now.steps in
    let some = false-eqb (vec_len steps) 0 (sym (sym c.is_empty.ensures ∙ no)) in
    omega (arith, some, steps.ok.0)
