use Rattle.phrase_parser.proofs.Lines.LineParts.{cut_joins}
use Rattle.phrase_parser.proofs.line_part_laws.cut_texts_join.Goals as goal

pub returns : goal.returns
returns c = cut_joins
