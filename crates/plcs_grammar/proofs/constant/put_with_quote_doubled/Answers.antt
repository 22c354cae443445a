use Rattle.std.proofs.Common.{sym}
use Rattle.plcs_base.specs.Putting.{puts_one, puts_same}
use Rattle.plcs_grammar.proofs.DoubledQuotes.{undoubled}
use Rattle.plcs_grammar.proofs.constant.put_with_quote_doubled.Goals as goal

pub returns-else-byte-eq39 : goal.returns-else-byte-eq39
returns-else-byte-eq39 g c = puts_same (sym (undoubled c.args.byte c.if-byte-eq39.false)) (puts_one c.put.ensures)
