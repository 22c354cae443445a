-- The place where a text that has no reading goes wrong.
use Rattle.std.specs.Prelude.{◌≡◌, ◌⊎◌, ℕ, List, [], ◌∷◌, ◌++◌, length, Option, Some, None}
use Rattle.plcs_grammar.specs.declared.category.Category.{Category}
use Rattle.plcs_grammar.specs.declared.category.Category.TheVariants.{CommentText}
use Rattle.plcs_grammar.specs.PlainPhrase.{PlainPhrase}
use Rattle.plcs_grammar.specs.Cuts.{Piece, Cuts, tokens_of}
use Rattle.plcs_grammar.specs.PhraseForm.{Form, Begins}
use Rattle.plcs_grammar.specs.Comment.{comment_syntax}

-- where the pieces of a text with this end go wrong; the text is cut up to its end, or up to a byte where no token
-- can be made
pub data GoesWrong (category : Category) (pieces : List Piece) (end : ℕ) : Option ℕ → ℕ → Type 0 where
  -- the text goes wrong at the first token that can't stand there
  at_token : {stop : Option ℕ} (front : List Piece) (piece : Piece) (back : List Piece)
      → pieces ≡ front ++ (piece ∷ back)
      → Begins category (tokens_of front)
      → ¬ (Begins category (tokens_of (front ++ (piece ∷ []))))
      → GoesWrong category pieces end stop piece.start
  -- the text goes wrong at the byte where no token can be made, where all tokens before it can stand
  at_byte : (stop : ℕ) → Begins category (tokens_of pieces) → GoesWrong category pieces end (Some stop) stop
  -- the text goes wrong at its end, where all tokens can stand and something is missing
  at_end : Begins category (tokens_of pieces) → ((phrase : PlainPhrase) → ¬ (Form category (tokens_of pieces) phrase))
      → GoesWrong category pieces end None end

-- the first place of the text that can't be right; only a text without a reading has one
abbrev pub SyntaxAt : Category → List ℕ → ℕ → Type 0
SyntaxAt category x place =
    ((pieces : List Piece) × (stop : Option ℕ) × Cuts pieces 0 x stop × GoesWrong category pieces (length x) stop place)
    ⊎ ((category ≡ CommentText) × (comment_syntax x ≡ Some place))
