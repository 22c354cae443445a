use Rattle.std.proofs.Common.{sym, ap, ◌∙◌}
use Rattle.std.specs.Prelude.{bytes_eq}
use Rattle.std.specs.FinMap.{get}
use Rattle.plcs_code.specs.Gen.{EntryMap}
use Rattle.plcs_code.proofs.CodeMaps.{found}
use Rattle.plcs_code.proofs.KeyOrder.{name_ties, names_differ, names_total}
use Rattle.plcs_code.proofs.headings.Headings.get.Goals as goal

pub returns-in-Some : goal.returns-in-Some
returns-in-Some c =
    c.in-Some.ensures.value
    ∙ sym (found names_total names_differ bytes_eq name_ties c.self.inside.entries.entries c.args.name.now)
    ∙ ap (λ (m : EntryMap). get m c.args.name.now) c.self.view_is

pub returns-in-None : goal.returns-in-None
returns-in-None c =
    c.in-None.ensures.value
    ∙ sym (found names_total names_differ bytes_eq name_ties c.self.inside.entries.entries c.args.name.now)
    ∙ ap (λ (m : EntryMap). get m c.args.name.now) c.self.view_is
