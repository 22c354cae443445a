use Rattle.plcs_base.specs.Put.{puts_next}
use Rattle.plcs_base.specs.Putting.{puts_behind}
use Rattle.plcs_grammar.proofs.constant.put_quoted.Goals as goal

pub returns : goal.returns
returns g c = puts_next c.put.ensures (puts_behind c.put_with_quotes_doubled.ensures c.put-2.ensures)
