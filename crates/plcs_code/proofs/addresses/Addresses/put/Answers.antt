use Rattle.std.proofs.Common.{◌≡◌, subst}
use Rattle.std.specs.FinMap.{from_entries, insert}
use Rattle.plcs_code.specs.Gen.{AddressMap}
use Rattle.plcs_code.proofs.CodeMaps.{put}
use Rattle.plcs_code.proofs.KeyOrder.{place_test, place_ties, places_differ, places_total}
use Rattle.plcs_code.proofs.addresses.Addresses.put.Goals as goal

pub returns : goal.returns
returns c =
    subst (λ (m : AddressMap). from_entries c.insert.new.self.entries ≡ insert m c.args.place c.args.address) c.self.view_is
    (put places_total places_differ place_test place_ties c.args.place c.args.address c.self.inside.addresses.entries
    c.insert.new.self.entries (λ q. c.in-Ok.ensures.updates.0 q))
