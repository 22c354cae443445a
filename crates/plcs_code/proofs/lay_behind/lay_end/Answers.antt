use Rattle.plcs_code.specs.Private.LaysAll.{lays_next}
use Rattle.plcs_code.proofs.Laying.{lays_one}
use Rattle.plcs_code.proofs.lay_behind.lay_end.Goals as goal

pub returns : goal.returns
returns g c = lays_next c.put.ensures (lays_one c.put-2.ensures)
