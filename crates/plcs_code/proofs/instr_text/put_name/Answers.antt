use Rattle.std.proofs.Common.{ap, ◌∷◌}
use Rattle.plcs_base.specs.Putting.{puts_same}
use Rattle.plcs_code.proofs.instr_text.put_name.Goals as goal

pub returns : goal.returns
returns g c = puts_same (ap (λ n. 32 ∷ n) c.as_bytes.ensures.bytes) c.put_operand.ensures
