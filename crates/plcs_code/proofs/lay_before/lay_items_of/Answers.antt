use Rattle.plcs_code.proofs.Laying.{lays_append}
use Rattle.plcs_code.proofs.lay_before.lay_items_of.Goals as goal

pub returns : goal.returns
returns g c = lays_append c.lay_parameters.ensures c.lay_cells.ensures
