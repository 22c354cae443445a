use Rattle.std.proofs.Common.{[], ◌∷◌, sym, ap, ◌∙◌}
use Rattle.plcs_code.specs.PlainInstr.{PlainInstr}
use Rattle.plcs_code.specs.Private.LaysAll.{lays_nothing}
use Rattle.plcs_code.proofs.LaidPieces.{cell_among, cell_new}
use Rattle.plcs_code.proofs.Laying.{lays_one, lays_same}
use Rattle.plcs_code.proofs.lay_cells.lay_cell.Goals as goal

pub returns-then-is_among : goal.returns-then-is_among
returns-then-is_among g c =
    lays_same (sym (cell_among c.args.names.now c.args.item.now (sym c.is_among.ensures ∙ c.if-is_among.true))) lays_nothing

pub returns : goal.returns
returns g c =
    let item = c.args.item.now in
    lays_same (sym (cell_new c.args.names.now item (sym c.is_among.ensures ∙ c.if-is_among.false)))
    (lays_same (ap (λ n. PlainInstr.cell n item.ty item.size ∷ []) c.copy.ensures) (lays_one c.put.ensures))
