-- How copied parts are told apart.
use Rattle.std.specs.Prelude.{List, Option}
use Rattle.std.specs.Coded.{Coded, coded_list, coded_option}
use Rattle.plcs_grammar.specs.PlainPhrase.{PlainPhrase}
use Rattle.plcs_grammar.specs.Private.PhraseCode.{phrase_code}

-- copied parts are told apart by their list
abbrev pub parts_code : Coded (List (Option PlainPhrase))
parts_code = coded_list (coded_option phrase_code)

-- the copied parts of headings are told apart by their lists
abbrev pub headings_code : Coded (List (List (Option PlainPhrase)))
headings_code = coded_list parts_code
