use Rattle.std.proofs.Common.{◌∙◌, arith}
use Rattle.screen_window.proofs.ShownCells.{several_more, rest_shown}
use Rattle.screen_window.proofs.shown_cells.show_cells.Goals as goal

-- 8 more are shown
pub loop-at-preserved : goal.loop-at-preserved
loop-at-preserved c = record {
  within = omega arith;
  shown =
      several_more c.loop-at.line c.show_lanes.new.line c.args.line.now c.args.cells.now c.args.from c.loop-at.at 8
      c.loop-at.invariant.shown c.show_lanes.ensures.shown;
  width = c.show_lanes.ensures.width ∙ c.loop-at.invariant.width;
}

pub returns-clause-shown : goal.returns-clause-shown
returns-clause-shown c =
    rest_shown c.loop-at.line c.show_each.new.line c.args.line.now c.args.cells.now c.args.from c.loop-at.at
    c.loop-at.invariant.within c.loop-at.invariant.shown c.show_each.ensures.shown

pub returns-clause-width : goal.returns-clause-width
returns-clause-width c = c.show_each.ensures.width ∙ c.loop-at.invariant.width
