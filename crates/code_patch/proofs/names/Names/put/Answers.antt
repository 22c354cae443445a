use Rattle.std.proofs.Common.{◌≡◌, subst}
use Rattle.std.specs.FinMap.{from_entries, insert}
use Rattle.code_patch.specs.ItemNames.{NumberMap}
use Rattle.code_patch.proofs.NameMaps.{number_put}
use Rattle.code_patch.proofs.names.Names.put.Goals as goal

pub returns : goal.returns
returns c =
    subst (λ (m : NumberMap). from_entries c.insert.new.self.entries ≡ insert m c.args.name c.args.number) c.self.view_is
    (number_put c.args.name c.args.number c.self.inside.numbers.entries
    c.insert.new.self.entries (λ q. c.in_ok-insert.ensures.updates.0 q))
