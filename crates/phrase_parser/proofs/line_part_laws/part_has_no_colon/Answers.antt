use Rattle.phrase_parser.proofs.Lines.ColonFreeParts.{colon_free}
use Rattle.phrase_parser.proofs.line_part_laws.part_has_no_colon.Goals as goal

pub returns : goal.returns
returns c = colon_free
