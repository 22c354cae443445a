use Rattle.std.proofs.Common.{◌∙◌, slice_get, sym, ap}
use Rattle.std.specs.Prelude.{option_and_then}
use Rattle.plcs_base.specs.Scope.{item_at}
use Rattle.decl_table.specs.Private.DeclsView.{RoomyItems}
use Rattle.decl_table.proofs.TableMaps.{found}
use Rattle.decl_table.proofs.scopes.Scopes.numbered.Goals as goal

pub returns-in_default : goal.returns-in_default
returns-in_default c =
    ap (λ o. option_and_then (λ items. slice_get items c.args.k) o) (c.in_default.ensures.value ∙ sym (found c.self.inside.procedures.entries c.args.procedure.0))
    ∙ ap (λ (m : RoomyItems). item_at m.items c.args.procedure.0 c.args.k) c.self.view_is

pub returns : goal.returns
returns c =
    c.numbered.ensures
    ∙ ap (λ o. option_and_then (λ items. slice_get items c.args.k) o) (c.in-Some.ensures.value ∙ sym (found c.self.inside.procedures.entries c.args.procedure.0))
    ∙ ap (λ (m : RoomyItems). item_at m.items c.args.procedure.0 c.args.k) c.self.view_is
