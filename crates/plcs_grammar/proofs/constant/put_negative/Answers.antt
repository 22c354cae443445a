use Rattle.plcs_base.specs.Put.{puts_next}
use Rattle.plcs_grammar.proofs.constant.put_negative.Goals as goal

pub returns : goal.returns
returns g c = puts_next c.put.ensures c.put_decimal.ensures
