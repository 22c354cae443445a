use Rattle.plcs_base.specs.Put.{puts_next}
use Rattle.plcs_base.specs.Putting.{puts_append}
use Rattle.synth_session.proofs.code_rows.put_code_line.Goals as goal

pub returns : goal.returns
returns g c = puts_append c.put_decimal.ensures (puts_next c.put.ensures c.show_instr.ensures)
