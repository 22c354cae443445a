use Rattle.plcs_base.specs.Put.{puts_next}
use Rattle.plcs_code.proofs.instr_text.put_operand.Goals as goal

pub returns : goal.returns
returns g c = puts_next c.put.ensures c.put_bytes.ensures
