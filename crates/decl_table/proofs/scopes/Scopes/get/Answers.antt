use Rattle.std.proofs.Common.{◌∙◌, sym, ap}
use Rattle.std.specs.FinMap.{get}
use Rattle.decl_table.specs.Private.DeclsView.{RoomyItems}
use Rattle.decl_table.proofs.TableMaps.{found}
use Rattle.decl_table.proofs.scopes.Scopes.get.Goals as goal

pub returns : goal.returns
returns c =
    c.get.ensures.value
    ∙ sym (found c.self.inside.procedures.entries c.args.procedure.0)
    ∙ ap (λ (m : RoomyItems). get m.items c.args.procedure.0) c.self.view_is
