use Rattle.std.proofs.Common.{sym, ap, ◌∙◌}
use Rattle.std.specs.FinMap.{get}
use Rattle.code_patch.specs.ItemNames.{NumberMap}
use Rattle.code_patch.proofs.NameMaps.{number_found}
use Rattle.code_patch.proofs.names.Names.number.Goals as goal

pub returns-in-Some : goal.returns-in-Some
returns-in-Some c =
    c.in-Some.ensures.value
    ∙ sym (number_found c.self.inside.numbers.entries c.args.name.now)
    ∙ ap (λ (m : NumberMap). get m c.args.name.now) c.self.view_is

pub returns-in-None : goal.returns-in-None
returns-in-None c =
    c.in-None.ensures.value
    ∙ sym (number_found c.self.inside.numbers.entries c.args.name.now)
    ∙ ap (λ (m : NumberMap). get m c.args.name.now) c.self.view_is
