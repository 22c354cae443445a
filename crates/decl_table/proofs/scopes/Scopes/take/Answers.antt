use Rattle.std.proofs.Common.{◌≡◌, ◌∙◌, sym, ap, subst}
use Rattle.std.specs.FinMap.{from_entries, get, remove}
use Rattle.plcs_base.specs.Scope.{ItemMap}
use Rattle.decl_table.specs.Private.DeclsView.{RoomyItems}
use Rattle.decl_table.proofs.TableMaps.{found, taken}
use Rattle.decl_table.proofs.scopes.Scopes.take.Goals as goal

pub returns-clause-taken : goal.returns-clause-taken
returns-clause-taken c =
    c.swap_remove.ensures.value
    ∙ sym (found c.self.inside.procedures.entries c.args.procedure.0)
    ∙ ap (λ (m : RoomyItems). get m.items c.args.procedure.0) c.self.view_is

pub returns-clause-left : goal.returns-clause-left
returns-clause-left c =
    subst (λ (m : RoomyItems). (let n : ItemMap = from_entries c.swap_remove.new.self.entries in n) ≡ remove m.items c.args.procedure.0) c.self.view_is
    (taken c.args.procedure.0 c.self.inside.procedures.entries c.swap_remove.new.self.entries (λ q. c.swap_remove.ensures.updates.0 q))
