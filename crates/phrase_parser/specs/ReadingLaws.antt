-- The laws of what texts read as.
use Rattle.std.specs.Prelude.{◌≡◌, ℕ, List}
use Rattle.plcs_grammar.specs.declared.category.Category.{Category}
use Rattle.plcs_grammar.specs.PlainPhrase.{PlainPhrase, category_of}
use Rattle.plcs_grammar.specs.Canon.{Canon}
use Rattle.plcs_grammar.specs.Limit.{IsWithinLimits}
use Rattle.plcs_grammar.specs.OverLimit.{OverLimit}
use Rattle.plcs_grammar.specs.Reads.{HasReading, Reads, IsOver}
use Rattle.phrase_parser.specs.Standing.{Standing, HasStanding}

-- the law that a text reads as one phrase of a category at most
abbrev pub OneReading : Type 0
OneReading = (category : Category) (x : List ℕ) (p q : PlainPhrase) → Reads category x p → Reads category x q → p ≡ q

-- the law that, for every phrase that some text reads as, its canonical text reads as that same phrase
abbrev pub CanonicalTextReads : Type 0
CanonicalTextReads = (category : Category) (x : List ℕ) (phrase : PlainPhrase) → Reads category x phrase
    → Reads category (Canon phrase) phrase

-- the law that a canonical text tells its phrase: two phrases of one category that some texts read as are equal where
-- theirs is one
abbrev pub CanonicalTextTells : Type 0
CanonicalTextTells =
    (category : Category) (x y : List ℕ) (p q : PlainPhrase) → Reads category x p → Reads category y q
    → Canon p ≡ Canon q → p ≡ q

-- the law that what a text has as its reading in a category is of that category
abbrev pub ReadingHasCategory : Type 0
ReadingHasCategory =
    (category : Category) (x : List ℕ) (phrase : PlainPhrase) → HasReading category x phrase
    → category_of phrase ≡ category

-- the law that every text, however long, has exactly one standing in a category
abbrev pub OneStanding : Type 0
OneStanding =
    (category : Category) (x : List ℕ)
    → (standing : Standing) × HasStanding category x standing
    × ((other : Standing) → HasStanding category x other → other ≡ standing)

-- the law that a text over a limit has a reading with a number or a nesting over its limit
abbrev pub OverIsPastLimits : Type 0
OverIsPastLimits =
    (category : Category) (x : List ℕ) (limit : OverLimit) → IsOver category x limit
    → (phrase : PlainPhrase) × HasReading category x phrase × ¬ (IsWithinLimits phrase)

-- the law that a text that has a reading with a number or a nesting over its limit is over a limit
abbrev pub PastLimitsIsOver : Type 0
PastLimitsIsOver =
    (category : Category) (x : List ℕ) (phrase : PlainPhrase) → HasReading category x phrase → ¬ (IsWithinLimits phrase)
    → (limit : OverLimit) × IsOver category x limit
