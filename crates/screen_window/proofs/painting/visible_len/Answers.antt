use Rattle.std.proofs.Common.{subst, sym}
use Rattle.lane_rows.specs.CellRow.{IsLastNonblank}
use Rattle.screen_window.proofs.VisibleCells.{all_blank, visible_to}
use Rattle.screen_window.proofs.painting.visible_len.Goals as goal

-- the cells after the last that is no blank fall away
pub returns-in-Some-clause-cells : goal.returns-in-Some-clause-cells
returns-in-Some-clause-cells c =
    visible_to c.args.cells.now c.in-Some.last
    (subst (IsLastNonblank c.args.cells.now) c.in-Some.is c.last_nonblank.ensures)

-- all cells are blanks
pub returns-in-None-clause-cells : goal.returns-in-None-clause-cells
returns-in-None-clause-cells c =
    sym (all_blank c.args.cells.now (subst (IsLastNonblank c.args.cells.now) c.in-None.is c.last_nonblank.ensures))
