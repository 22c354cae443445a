use Rattle.std.proofs.Common.{arith}
use Rattle.std.proofs.lemmas.Grind.{common_steps}
use Rattle.plcs_grammar.specs.Canon.{Canon}
use Rattle.plcs_grammar.specs.PlainPhrase.{plain_phrase}
use Rattle.synth_session.proofs.LineTexts.{whole_text}
use Rattle.synth_session.proofs.typed_line.line_text.Goals as goal

pub returns-clause-text : goal.returns-clause-text
returns-clause-text c =
    let counted = c.shown_len.ensures in
    let short = c.if-shown_len-gt-LINE_LIMIT.false in
    whole_text (Canon (plain_phrase c.args.phrase.now)) c.new.ensures c.show.ensures (grind (arith, common_steps))
