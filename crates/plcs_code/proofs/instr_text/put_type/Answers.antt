use Rattle.std.proofs.Common.{ap, sym, ◌∷◌}
use Rattle.plcs_base.specs.Putting.{puts_append, puts_same}
use Rattle.plcs_code.specs.InstrText.{type_text}
use Rattle.plcs_code.proofs.instr_text.put_type.Goals as goal

pub returns-in-Text : goal.returns-in-Text
returns-in-Text g c =
    puts_same (sym (ap (λ ty. 32 ∷ type_text ty) c.in-Text.is)) (puts_append c.put_bytes-in-Text.ensures c.put_decimal.ensures)
