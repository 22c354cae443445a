use Rattle.std.proofs.Common.{sym, ap, ◌∙◌}
use Rattle.std.specs.Prelude.{nat_eq}
use Rattle.std.specs.FinMap.{get, nat_cmp-IsAntisymmetric}
use Rattle.std.proofs.lemmas.Cmp.{nat_cmp_total}
use Rattle.plcs_code.specs.Gen.{SpanMap}
use Rattle.plcs_code.proofs.CodeMaps.{found}
use Rattle.plcs_code.proofs.KeyOrder.{nat_ties}
use Rattle.plcs_code.proofs.spans.Spans.get.Goals as goal

pub returns-in-Some : goal.returns-in-Some
returns-in-Some c =
    c.in-Some.ensures.value
    ∙ sym (found nat_cmp_total nat_cmp-IsAntisymmetric nat_eq nat_ties c.self.inside.spans.entries c.args.slot.0)
    ∙ ap (λ (m : SpanMap). get m c.args.slot.0) c.self.view_is

pub returns-in-None : goal.returns-in-None
returns-in-None c =
    c.in-None.ensures.value
    ∙ sym (found nat_cmp_total nat_cmp-IsAntisymmetric nat_eq nat_ties c.self.inside.spans.entries c.args.slot.0)
    ∙ ap (λ (m : SpanMap). get m c.args.slot.0) c.self.view_is
