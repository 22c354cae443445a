use Rattle.lane_rows.proofs.CellLanes.{few, equal_before, unequal_there}
use Rattle.lane_rows.proofs.cell_rows.equal_cells.Goals as goal

pub returns-clause-few : goal.returns-clause-few
returns-clause-few c = few c.args.a.now c.args.b.now c.args.at _ c.requires.in_a c.requires.in_b c.first_set.ensures

pub returns-clause-equal : goal.returns-clause-equal
returns-clause-equal c = equal_before c.args.a.now c.args.b.now c.args.at _ c.requires.in_a c.requires.in_b c.first_set.ensures

pub returns-clause-differ : goal.returns-clause-differ
returns-clause-differ c = unequal_there c.args.a.now c.args.b.now c.args.at _ c.requires.in_a c.requires.in_b c.first_set.ensures
