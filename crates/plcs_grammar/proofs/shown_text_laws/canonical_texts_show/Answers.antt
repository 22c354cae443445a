use Rattle.plcs_grammar.proofs.ShownTexts.{shown_text}
use Rattle.plcs_grammar.proofs.shown_text_laws.canonical_texts_show.Goals as goal

pub returns : goal.returns
returns c = shown_text
