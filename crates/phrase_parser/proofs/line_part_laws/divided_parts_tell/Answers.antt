use Rattle.phrase_parser.proofs.Lines.LineParts.{parts_tell}
use Rattle.phrase_parser.proofs.line_part_laws.divided_parts_tell.Goals as goal

pub returns : goal.returns
returns c = parts_tell
