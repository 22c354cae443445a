use Rattle.std.proofs.Common.{◌≡◌, subst}
use Rattle.std.specs.FinMap.{from_entries, insert}
use Rattle.plcs_base.specs.Scope.{ItemMap}
use Rattle.decl_table.specs.Private.DeclsView.{RoomyItems}
use Rattle.decl_table.proofs.TableMaps.{put}
use Rattle.decl_table.proofs.scopes.Scopes.put.Goals as goal

pub returns-clause-put : goal.returns-clause-put
returns-clause-put c =
    subst (λ (m : RoomyItems). (let n : ItemMap = from_entries c.insert.new.self.entries in n) ≡ insert m.items c.args.slot.0 c.args.items) c.self.view_is
    (put c.args.slot.0 c.args.items c.self.inside.procedures.entries c.insert.new.self.entries (λ q. c.in_ok-insert.ensures.updates.0 q))
