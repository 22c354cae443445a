use Rattle.phrase_parser.proofs.Lines.KeywordFronts.{no_keyword_begins}
use Rattle.phrase_parser.proofs.line_part_laws.no_keyword_begins_part.Goals as goal

pub returns : goal.returns
returns c = no_keyword_begins
