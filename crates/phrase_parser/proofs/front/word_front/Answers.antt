use Rattle.std.proofs.Common.{false, sym, ◌∙◌, arith}
use Rattle.phrase_parser.proofs.Tokens.Words.{word_kept}
use Rattle.phrase_parser.proofs.front.word_front.Goals as goal

pub returns-else-is_keyword : goal.returns-else-is_keyword
returns-else-is_keyword c =
    word_kept c.args.text.now c.leading-length.result false c.requires c.leading-length.ensures.counted (omega arith)
    (sym c.if-is_keyword.false ∙ c.is_keyword.ensures)
