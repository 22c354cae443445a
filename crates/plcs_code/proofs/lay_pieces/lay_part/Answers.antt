use Rattle.std.proofs.Common.{ap}
use Rattle.plcs_code.specs.ExprCode.{part_instrs}
use Rattle.plcs_code.specs.Private.LaysAll.{lays_nothing}
use Rattle.plcs_code.proofs.Laying.{lays_same}
use Rattle.plcs_code.proofs.lay_pieces.lay_part.Goals as goal

pub returns-in_default : goal.returns-in_default
returns-in_default g c = lays_same (ap part_instrs c.in_default.ensures) lays_nothing
