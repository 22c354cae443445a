use Rattle.std.proofs.Common.{◌<◌, [], ◌∷◌, length, take, get_or, sym, ap, ◌∙◌, arith}
use Rattle.std.proofs.lemmas.List.{take_more}
use Rattle.plcs_base.specs.Put.{puts_nothing}
use Rattle.plcs_grammar.specs.Token.{with_quotes_doubled}
use Rattle.plcs_base.specs.Putting.{puts_append, puts_same}
use Rattle.plcs_grammar.proofs.DoubledQuotes.{doubled_append}
use Rattle.plcs_grammar.proofs.constant.put_with_quotes_doubled.Goals as goal

pub loop-byte-init : goal.loop-byte-init
loop-byte-init g c = puts_nothing

pub loop-byte-preserved : goal.loop-byte-preserved
loop-byte-preserved g c =
    let bytes = c.args.bytes.now in
    let i = c.loop-byte.byte-index in
    let inside : i < length bytes = omega arith in
    puts_same
    (sym (ap with_quotes_doubled (take_more bytes i 0 inside) ∙ doubled_append (take i bytes) (get_or bytes i 0 ∷ [])))
    (puts_append c.loop-byte.invariant c.put_with_quote_doubled.ensures)
