use Rattle.std.proofs.Common.{◌<◌, length, sym, arith}
use Rattle.plcs_code.specs.Private.LaysAll.{lays_nothing}
use Rattle.plcs_code.proofs.LaidPieces.{parameters_next}
use Rattle.plcs_code.proofs.Laying.{lays_append, lays_same}
use Rattle.plcs_code.proofs.lay_cells.lay_parameters.Goals as goal

pub loop-i-init : goal.loop-i-init
loop-i-init g c = lays_nothing

pub loop-i-preserved : goal.loop-i-preserved
loop-i-preserved g c =
    let inside : c.loop-i.i < length c.args.names.now = omega arith in
    lays_same
    (sym (parameters_next c.args.items.now c.args.names.now c.loop-i.i c.index-names-i.result inside c.index-names-i.is))
    (lays_append c.loop-i.invariant c.lay_parameter.ensures)
