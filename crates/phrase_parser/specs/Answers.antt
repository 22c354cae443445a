-- What each answer of the parser says of the text, and what a fact about the text makes the answer.
use Rattle.std.specs.Prelude.{◌≡◌, ◌⊎◌, ℕ, List, Result, Ok, Err}
use Rattle.plcs_grammar.specs.declared.category.Category.{Category}
use Rattle.plcs_grammar.specs.declared.phrase.Phrase.{Phrase}
use Rattle.plcs_grammar.specs.PlainPhrase.{PlainPhrase, plain_phrase}
use Rattle.plcs_grammar.specs.OverLimit.{OverLimit}
use Rattle.plcs_grammar.specs.Reads.{Outline, Reads, IsOver}
use Rattle.plcs_grammar.specs.SyntaxOffset.{SyntaxAt}
use Rattle.phrase_parser.specs.declared.fault.PhraseFault.{PhraseFault}
use Rattle.phrase_parser.specs.declared.fault.PhraseFault.TheVariants.{Syntax, NumberTooLarge, TooDeep, OutOfMemory}

-- what a fault of the parser says of the text; want of memory says nothing
abbrev pub FaultSays : Category → List ℕ → PhraseFault → Type 0
FaultSays category x (Syntax place) = (¬ (Outline category x)) × SyntaxAt category x place
FaultSays category x (NumberTooLarge place) = IsOver category x (OverLimit.number_too_large place)
FaultSays category x (TooDeep place) = IsOver category x (OverLimit.too_deep place)
FaultSays category x OutOfMemory = Unit {0}

-- what an answer of the parser says of the text
abbrev pub Answers : Category → List ℕ → Result Phrase PhraseFault → Type 0
Answers category x (Ok phrase) = Reads category x (plain_phrase phrase)
Answers category x (Err fault) = FaultSays category x fault

-- the parser's answer is the phrase, unless memory ran out
abbrev pub Only : Result Phrase PhraseFault → PlainPhrase → Type 0
Only (Ok phrase) reading = plain_phrase phrase ≡ reading
Only (Err fault) reading = fault ≡ OutOfMemory

-- the parser's answer is the fault, unless memory ran out
abbrev pub OnlyFault : Result Phrase PhraseFault → PhraseFault → Type 0
OnlyFault (Ok phrase) fault = ⊥
OnlyFault (Err answered) fault = (answered ≡ fault) ⊎ (answered ≡ OutOfMemory)

-- the fault that the parser answers where this goes past a limit first
abbrev pub over_fault : OverLimit → PhraseFault
over_fault (OverLimit.number_too_large place) = NumberTooLarge place
over_fault (OverLimit.too_deep place) = TooDeep place
