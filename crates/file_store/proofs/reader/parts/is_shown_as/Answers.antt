use Rattle.std.proofs.Common.{◌∙◌, ap, sym}
use Rattle.plcs_grammar.specs.Canon.{Canon}
use Rattle.plcs_grammar.specs.PlainPhrase.{plain_phrase}
use Rattle.file_store.specs.declared.reader.parts.Awaited.{Awaited}
use Rattle.file_store.specs.Private.LineReading.{left_if}
use Rattle.file_store.proofs.PartTexts.{puts_off, shown_none, shown_some}
use Rattle.file_store.proofs.reader.parts.is_shown_as.Goals as goal

pub returns-then-out : goal.returns-then-out
returns-then-out c =
    shown_some (Canon (plain_phrase c.args.phrase.now)) c.args.text.now c.show.new.out.left.now c.is_empty.result
    (sym (puts_off (λ (out : Awaited). left_if out.same out.left.now) c.show.ensures) ∙ ap (λ same. left_if same c.show.new.out.left.now) c.if-out.true)
    c.is_empty.ensures

pub returns : goal.returns
returns c =
    shown_none (Canon (plain_phrase c.args.phrase.now)) c.args.text.now
    (sym (puts_off (λ (out : Awaited). left_if out.same out.left.now) c.show.ensures) ∙ ap (λ same. left_if same c.show.new.out.left.now) c.if-out.false)
