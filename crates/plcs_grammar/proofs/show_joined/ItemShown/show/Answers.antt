use Rattle.std.proofs.Common.{sym, ap}
use Rattle.plcs_grammar.specs.Canon.{canon_sized}
use Rattle.plcs_base.specs.Putting.{puts_same}
use Rattle.plcs_grammar.proofs.ParenthesizedTexts.{puts_parenthesized}
use Rattle.plcs_grammar.proofs.show_joined.ItemShown.show.Goals as goal

pub returns-in-Some : goal.returns-in-Some
returns-in-Some g c =
    let name = puts_same c.as_bytes.ensures.bytes c.put_bytes.ensures in
    puts_same
    (sym (ap (canon_sized c.args.self.now.name) c.in-Some.is))
    (puts_parenthesized name c.put.ensures c.put_decimal.ensures c.put-in-Some.ensures)
