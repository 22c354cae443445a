use Rattle.std.specs.Prelude.{Option}
use Rattle.std.specs.Option.{option_and_then}
use Rattle.std.proofs.Common.{ap, sym, ◌∙◌}
use Rattle.code_patch.specs.Private.LocatedNode.{PlainLocated, located_span}
use Rattle.code_patch.proofs.KeptSpans.{spans_located}
use Rattle.code_patch.proofs.code_tree.CodeTreeCodeView.span.Goals as goal

pub returns-in-Some : goal.returns-in-Some
returns-in-Some g c =
    c.span.ensures
    ∙ ap (λ (o : Option PlainLocated). option_and_then located_span o) c.in-Some.ensures.found
    ∙ sym (spans_located c.args.slot.0 c.args.self.now.items c.in-Some.ensures.sound)

pub returns-in-None : goal.returns-in-None
returns-in-None g c =
    ap (λ (o : Option PlainLocated). option_and_then located_span o) c.in-None.ensures.found
    ∙ sym (spans_located c.args.slot.0 c.args.self.now.items c.in-None.ensures.sound)
