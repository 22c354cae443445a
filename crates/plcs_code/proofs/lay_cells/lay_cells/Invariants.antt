use Rattle.std.proofs.Common.{take}
use Rattle.std.specs.Prelude.{flat_map}
use Rattle.plcs_code.specs.Pieces.{cell_instr}
use Rattle.plcs_code.specs.Private.LaysAll.{LaysAll}
use Rattle.plcs_code.proofs.lay_cells.lay_cells.Given as goal

abbrev pub invariant-loop-item : goal.invariant-loop-item
invariant-loop-item g l =
    LaysAll g.O.InstrOut.lays l.fn.out (g.W.Work.counts l.fn.work) (flat_map (cell_instr l.names) (take l.item-index l.items))
    l.out (g.W.Work.counts l.work)
