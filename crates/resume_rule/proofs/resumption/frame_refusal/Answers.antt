-- A question that isn't told to hold doesn't, so the next one is asked; the first that is told to hold is the answer.
use Rattle.std.specs.Prelude.{refl}
use Rattle.std.proofs.Common.{sym, ◌∙◌, inl, inr}
use Rattle.std.proofs.Math.Bool.{false≢true}
use Rattle.resume_rule.proofs.resumption.frame_refusal.Goals as goal

pub returns-then-items_differ : goal.returns-then-items_differ
returns-then-items_differ c =
    inr (
      (λ differs. false≢true (sym c.if-heading_differs.false ∙ c.heading_differs.ensures.1 differs)),
      inl (c.items_differ.ensures.0 c.if-items_differ.true, refl),
    )

pub returns-then-template_differs : goal.returns-then-template_differs
returns-then-template_differs c =
    inr (
      (λ differs. false≢true (sym c.if-heading_differs.false ∙ c.heading_differs.ensures.1 differs)),
      inr (
        (λ differs. false≢true (sym c.if-items_differ.false ∙ c.items_differ.ensures.1 differs)),
        inl (c.template_differs.ensures.0 c.if-template_differs.true, refl),
      ),
    )

pub returns : goal.returns
returns c =
    inr (
      (λ differs. false≢true (sym c.if-heading_differs.false ∙ c.heading_differs.ensures.1 differs)),
      inr (
        (λ differs. false≢true (sym c.if-items_differ.false ∙ c.items_differ.ensures.1 differs)),
        inr ((λ differs. false≢true (sym c.if-template_differs.false ∙ c.template_differs.ensures.1 differs)), refl),
      ),
    )
