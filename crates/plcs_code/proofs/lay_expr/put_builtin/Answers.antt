use Rattle.plcs_code.proofs.Laying.{lays_one}
use Rattle.plcs_code.proofs.lay_expr.put_builtin.Goals as goal

pub returns-then-arguments-gt-MOST_INSTRS : goal.returns-then-arguments-gt-MOST_INSTRS
returns-then-arguments-gt-MOST_INSTRS g c = lays_one (c.refuse.ensures _)

pub returns : goal.returns
returns g c = lays_one c.put.ensures
