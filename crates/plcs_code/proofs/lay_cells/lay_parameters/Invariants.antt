use Rattle.std.proofs.Common.{[], take}
use Rattle.plcs_code.specs.Pieces.{parameters_instrs}
use Rattle.plcs_code.specs.Private.LaysAll.{LaysAll}
use Rattle.plcs_code.proofs.lay_cells.lay_parameters.Given as goal

abbrev pub invariant-loop-i : goal.invariant-loop-i
invariant-loop-i g l =
    LaysAll g.O.InstrOut.lays l.fn.out (g.W.Work.counts l.fn.work) (parameters_instrs l.items [] (take l.i l.names))
    l.out (g.W.Work.counts l.work)
