use Rattle.std.proofs.Common.{◌∙◌, [], sym, ap}
use Rattle.std.specs.Prelude.{unwrap_or}
use Rattle.template_tree.specs.Checks.Environment.{item_named}
use Rattle.template_tree.specs.Checks.ProgramMaps.{items_in}
use Rattle.decl_table.specs.Private.DeclsView.{RoomyItems}
use Rattle.decl_table.proofs.TableMaps.{found}
use Rattle.decl_table.proofs.scopes.Scopes.named.Goals as goal

pub returns-in_default : goal.returns-in_default
returns-in_default c =
    ap (λ o. item_named c.args.name.now (unwrap_or o [])) (c.in_default.ensures.value ∙ sym (found c.self.inside.procedures.entries c.args.procedure.0))
    ∙ ap (λ (m : RoomyItems). item_named c.args.name.now (items_in m.items c.args.procedure.0)) c.self.view_is

pub returns : goal.returns
returns c =
    c.named.ensures
    ∙ ap (λ o. item_named c.args.name.now (unwrap_or o [])) (c.in-Some.ensures.value ∙ sym (found c.self.inside.procedures.entries c.args.procedure.0))
    ∙ ap (λ (m : RoomyItems). item_named c.args.name.now (items_in m.items c.args.procedure.0)) c.self.view_is
