-- The plain form of what stands in a part.
use Rattle.std.specs.Prelude.{Option, Some, None}
use Rattle.plcs_grammar.specs.PlainPhrase.{PlainPhrase, plain_phrase}
use Rattle.template_tree.specs.declared.phrase_place.PhrasePlace.{PhrasePlace}
use Rattle.template_tree.specs.declared.phrase_place.PhrasePlace.TheVariants.{Empty, Filled}

-- the plain form of what stands in a part: the phrase, or nothing
abbrev pub plain_phrase_place : PhrasePlace → Option PlainPhrase
plain_phrase_place Empty = None
plain_phrase_place (Filled phrase) = Some (plain_phrase phrase)
