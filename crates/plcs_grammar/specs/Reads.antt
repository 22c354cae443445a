-- Which phrase a whole text reads as: it is cut into the tokens of a phrase, or is a comment's text, within the limits
-- or past them.
use Rattle.std.specs.Prelude.{◌≡◌, ◌⊎◌, ℕ, List, Some, None}
use Rattle.plcs_grammar.specs.declared.category.Category.{Category}
use Rattle.plcs_grammar.specs.declared.category.Category.TheVariants.{CommentText}
use Rattle.plcs_grammar.specs.PlainPhrase.{PlainPhrase}
use Rattle.plcs_grammar.specs.Cuts.{Cuts, Piece, tokens_of}
use Rattle.plcs_grammar.specs.TrimmedText.{trimmed}
use Rattle.plcs_grammar.specs.PhraseForm.{Form}
use Rattle.plcs_grammar.specs.Comment.{IsCommentText}
use Rattle.plcs_grammar.specs.Limit.{IsWithinLimits}
use Rattle.plcs_grammar.specs.OpenedLevel.{phrase_opened_levels}
use Rattle.plcs_grammar.specs.OverLimit.{OverLimit, first_over}

-- the text has the phrase as its reading by tokens: the whole text is cut into the pieces, and they are the phrase
pub record IsCutAs (category : Category) (x : List ℕ) (pieces : List Piece) (phrase : PlainPhrase) : Type 0 where
  pub cuts : Cuts pieces 0 x None
  pub form : Form category (tokens_of pieces) phrase

-- the text has the phrase as its reading without tokens: it is that of the comment, in the category of comments
pub record IsCommentAs (category : Category) (x : List ℕ) (phrase : PlainPhrase) : Type 0 where
  pub category_is : category ≡ CommentText
  pub text : IsCommentText x
  pub phrase_is : phrase ≡ PlainPhrase.comment (trimmed x)

-- the text has this reading in the category, with numbers of any size and any nesting
abbrev pub HasReading : Category → List ℕ → PlainPhrase → Type 0
HasReading category x phrase =
    ((pieces : List Piece) × IsCutAs category x pieces phrase) ⊎ IsCommentAs category x phrase

-- the text has a reading in the category, with numbers of any size and any nesting
abbrev pub Outline : Category → List ℕ → Type 0
Outline category x = (phrase : PlainPhrase) × HasReading category x phrase

-- the text reads as the phrase, within the limits
abbrev pub Reads : Category → List ℕ → PlainPhrase → Type 0
Reads category x phrase = HasReading category x phrase × IsWithinLimits phrase

-- what the whole text reads as is a phrase past the limits, and this is what goes past one first
abbrev pub IsOver : Category → List ℕ → OverLimit → Type 0
IsOver category x over =
    (pieces : List Piece) × (phrase : PlainPhrase) × IsCutAs category x pieces phrase
    × (first_over pieces (phrase_opened_levels phrase) ≡ Some over)
