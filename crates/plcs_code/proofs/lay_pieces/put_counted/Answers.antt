use Rattle.std.proofs.Common.{[], ◌∷◌, ap}
use Rattle.plcs_code.proofs.Laying.{lays_one, lays_same}
use Rattle.plcs_code.proofs.lay_pieces.put_counted.Goals as goal

pub returns-then-number-gt-MOST_INSTRS : goal.returns-then-number-gt-MOST_INSTRS
returns-then-number-gt-MOST_INSTRS g c = lays_one (c.refuse.ensures _)

pub returns : goal.returns
returns g c = lays_same (ap (λ i. i ∷ []) c.put_instr.ensures) (lays_one c.put.ensures)
