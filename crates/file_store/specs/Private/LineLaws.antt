-- The laws of phrases and of parts of lines on which reading listings stands.
use Rattle.plcs_grammar.specs.ShownText.{CanonicalTextsShow}
use Rattle.phrase_parser.specs.LinePartLaws.{PartEndsAtDivider, DividedPartsTell, CutTextsJoin, NoKeywordBeginsPart, PartHasNoColon}
use Rattle.phrase_parser.specs.ReadingLaws.{CanonicalTextTells}

-- all the laws of phrases and of parts of lines on which reading listings stands
pub record LineLaws : Type 0 where
  pub part_ends : PartEndsAtDivider
  pub parts_tell : DividedPartsTell
  pub joins : CutTextsJoin
  pub no_keyword : NoKeywordBeginsPart
  pub no_colon : PartHasNoColon
  pub shows : CanonicalTextsShow
  pub tells : CanonicalTextTells
