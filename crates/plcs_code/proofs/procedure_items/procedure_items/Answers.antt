use Rattle.std.proofs.Common.{sym, ap, ◌∙◌}
use Rattle.template_tree.specs.Programs.Program.{sort_of}
use Rattle.template_tree.specs.Checks.ProgramMaps.{items_in}
use Rattle.plcs_code.specs.Pieces.{own_pieces}
use Rattle.plcs_code.specs.Private.LaidCode.{has_items}
use Rattle.plcs_code.proofs.Laying.{if_ok_then}
use Rattle.plcs_code.proofs.ProcedureItems.{itemless}
use Rattle.plcs_code.proofs.procedure_items.procedure_items.Goals as goal

pub returns-then-not-has_items : goal.returns-then-not-has_items
returns-then-not-has_items g c =
    let label = c.args.node.now.label in
    λ marks. itemless marks _ (items_in (g.D.Scope.items c.args.scope.now) label.slot) label
    (ap (λ kind. has_items (sort_of kind)) (sym c.kind.ensures) ∙ sym c.has_items.ensures ∙ c.if-not-has_items.true)

pub returns : goal.returns
returns g c =
    let label = c.args.node.now.label in
    if_ok_then c.items_in.result c.items_in.ensures
    (λ items is marks. ap (λ items. own_pieces marks items label) (is ∙ ap (items_in (g.D.Scope.items c.args.scope.now)) c.slot.ensures))
