use Rattle.std.proofs.Common.{sym, ap, ◌∙◌}
use Rattle.std.specs.FinMap.{get}
use Rattle.plcs_code.specs.Gen.{AddressMap}
use Rattle.plcs_code.proofs.CodeMaps.{found}
use Rattle.plcs_code.proofs.KeyOrder.{place_test, place_ties, places_differ, places_total}
use Rattle.plcs_code.proofs.addresses.Addresses.get.Goals as goal

pub returns-in-Some : goal.returns-in-Some
returns-in-Some c =
    c.in-Some.ensures.value
    ∙ sym (found places_total places_differ place_test place_ties c.self.inside.addresses.entries c.args.place)
    ∙ ap (λ (m : AddressMap). get m c.args.place) c.self.view_is

pub returns-in-None : goal.returns-in-None
returns-in-None c =
    c.in-None.ensures.value
    ∙ sym (found places_total places_differ place_test place_ties c.self.inside.addresses.entries c.args.place)
    ∙ ap (λ (m : AddressMap). get m c.args.place) c.self.view_is
