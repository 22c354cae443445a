use Rattle.phrase_parser.proofs.Lines.LineParts.{part_cut}
use Rattle.phrase_parser.proofs.line_part_laws.part_ends_at_divider.Goals as goal

pub returns : goal.returns
returns c = part_cut
