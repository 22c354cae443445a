use Rattle.std.proofs.Common.{◌<◌, length, sym, rules}
use Rattle.plcs_base.specs.Putting.{puts_same}
use Rattle.plcs_grammar.proofs.ParenthesizedTexts.{puts_parenthesized}
use Rattle.plcs_grammar.proofs.JoinedTexts.{call_text}
use Rattle.plcs_grammar.proofs.show_phrase.show_call.Goals as goal

pub returns-then-not-is_empty : goal.returns-then-not-is_empty
returns-then-not-is_empty g c =
    let some : 0 < length c.args.arguments.now = search rules in
    let name = puts_same c.as_bytes.ensures.bytes c.put_bytes.ensures in
    puts_same
    (sym (call_text c.args.name.now c.args.arguments.now some))
    (puts_parenthesized name c.put.ensures c.show_exprs.ensures c.put-then-not-is_empty.ensures)
