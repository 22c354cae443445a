use Rattle.std.proofs.Common.{sym}
use Rattle.plcs_code.specs.Pieces.{cell_instr}
use Rattle.plcs_code.specs.Private.LaysAll.{lays_nothing}
use Rattle.plcs_code.proofs.LaidPieces.{cells_next}
use Rattle.plcs_code.proofs.Laying.{lays_append, lays_same}
use Rattle.plcs_code.proofs.lay_cells.lay_cells.Goals as goal

pub loop-item-init : goal.loop-item-init
loop-item-init g c = lays_nothing

pub loop-item-preserved : goal.loop-item-preserved
loop-item-preserved g c =
    lays_same
    (sym (cells_next (cell_instr c.args.names.now) c.args.items.now c.loop-item.item-index c.item-item.result c.loop-item-test.true c.item-item.is))
    (lays_append c.loop-item.invariant c.lay_cell.ensures)
