-- What is kept of the tokens into which a text is cut: their kinds and places.
use Rattle.std.specs.Prelude.{◌≡◌, ℕ, min, List, map, Option}
use Rattle.plcs_grammar.specs.Token.{Token}
use Rattle.plcs_grammar.specs.Cuts.{Piece, Cuts}
use Rattle.phrase_parser.specs.declared.token.TheConstants.{GREATEST_KEPT}
use Rattle.phrase_parser.specs.declared.token.TokenKind.{TokenKind}
use Rattle.phrase_parser.specs.declared.token.TokenKind.TheVariants as kind
use Rattle.phrase_parser.specs.declared.token.Placed.{Placed}

-- the greatest number that is kept of a token
abbrev pub greatest_kept : ℕ
greatest_kept = GREATEST_KEPT

-- the kind of a token; of a number its value, or the greatest that is kept where it is greater
abbrev pub kept_kind : Token → TokenKind
kept_kind (Token.name n) = kind.Name
kept_kind (Token.keyword word) = kind.Keyword
kept_kind (Token.number n) = kind.Number (min n greatest_kept)
kept_kind (Token.text value) = kind.Text
kept_kind (Token.bit value) = kind.Bit value
kept_kind (Token.sign s) = kind.Sign s

-- what is kept of a piece: its token's kind, with its places
abbrev pub placed_of : Piece → Placed
placed_of piece = record { kind = kept_kind piece.token; start = piece.start; end = piece.end }

-- the tokens are what is kept of the pieces into which the whole text is cut, up to the place where it stops being
-- tokens
abbrev pub AreTokens : List Placed → Option ℕ → List ℕ → Type 0
AreTokens placed stop text = (pieces : List Piece) × Cuts pieces 0 text stop × (placed ≡ map placed_of pieces)
