use Rattle.std.specs.Prelude.{◌∷◌, Some}
use Rattle.resume_rule.proofs.AnsweredQuestions.{first_passed, first_refused, of_lists}
use Rattle.resume_rule.proofs.resumption.+first_refusal.Goals as goal

pub returns-in-Some-frame_refusal : goal.returns-in-Some-frame_refusal
returns-in-Some-frame_refusal t c =
    of_lists c.args.tree.now.items (Some c.in-Some-frame_refusal.refusal)
    c.args.frames.now (c.in-Some.frame.now ∷ c.in-Some.frames_above.now)
    c.args.headings.now (c.in-Some-split_first.heading.now ∷ c.in-Some-split_first.headings_above.now)
    c.args.declared.now (c.in-Some-split_first-2.items.now ∷ c.in-Some-split_first-2.declared_above.now)
    c.args.held.now (c.in-Some-split_first-3.template.now ∷ c.in-Some-split_first-3.held_above.now)
    c.in-Some.ensures.cases.0 c.in-Some-split_first.ensures.cases.0 c.in-Some-split_first-2.ensures.cases.0 c.in-Some-split_first-3.ensures.cases.0
    (first_refused c.args.tree.now.items c.in-Some.frame.now c.in-Some.frames_above.now
    c.in-Some-split_first.heading.now c.in-Some-split_first.headings_above.now
    c.in-Some-split_first-2.items.now c.in-Some-split_first-2.declared_above.now
    c.in-Some-split_first-3.template.now c.in-Some-split_first-3.held_above.now
    c.in-Some-frame_refusal.refusal c.in-Some-frame_refusal.ensures)

pub returns-in-None : goal.returns-in-None
returns-in-None t c =
    of_lists c.args.tree.now.items c.first_refusal.result
    c.args.frames.now (c.in-Some.frame.now ∷ c.in-Some.frames_above.now)
    c.args.headings.now (c.in-Some-split_first.heading.now ∷ c.in-Some-split_first.headings_above.now)
    c.args.declared.now (c.in-Some-split_first-2.items.now ∷ c.in-Some-split_first-2.declared_above.now)
    c.args.held.now (c.in-Some-split_first-3.template.now ∷ c.in-Some-split_first-3.held_above.now)
    c.in-Some.ensures.cases.0 c.in-Some-split_first.ensures.cases.0 c.in-Some-split_first-2.ensures.cases.0 c.in-Some-split_first-3.ensures.cases.0
    (first_passed c.args.tree.now.items c.in-Some.frame.now c.in-Some.frames_above.now
    c.in-Some-split_first.heading.now c.in-Some-split_first.headings_above.now
    c.in-Some-split_first-2.items.now c.in-Some-split_first-2.declared_above.now
    c.in-Some-split_first-3.template.now c.in-Some-split_first-3.held_above.now
    c.first_refusal.result c.in-None.ensures c.first_refusal.ensures)
