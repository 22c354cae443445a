-- A whole text cut into tokens with their places.
use Rattle.std.specs.Prelude.{◌≡◌, ◌≢◌, ℕ, ◌+◌, List, [], ◌∷◌, map, length, drop, Option, Some, None}
use Rattle.std.specs.List.{prefix_len}
use Rattle.plcs_base.specs.Byte.{is_blank}
use Rattle.plcs_grammar.specs.Token.{Token, LongestToken, NoToken}

-- a piece of a text: a token, the place of its first byte, and the place behind its last
pub record Piece : Type 0 where
  pub token : Token
  pub start : ℕ
  pub end : ℕ

-- the tokens of the pieces
abbrev pub tokens_of : List Piece → List Token
tokens_of pieces = map (λ piece. piece.token) pieces

-- how many blanks the text begins with, before the first of its pieces
abbrev pub blanks : List ℕ → ℕ
blanks x = prefix_len is_blank x

-- a whole text behind the blanks that it begins with, where the first token into which it is cut has its place
abbrev pub unblanked : List ℕ → List ℕ
unblanked x = drop (blanks x) x

-- the text x, whose first byte has this place, is cut into the pieces, each the longest token where it stands,
-- up to its end or up to the place where no token can be made
abbrev pub Cuts : List Piece → ℕ → List ℕ → Option ℕ → Type 0
Cuts [] place x None = unblanked x ≡ []
Cuts [] place x (Some stop) = (unblanked x ≢ []) × NoToken (unblanked x) × (stop ≡ place + blanks x)
Cuts (piece ∷ pieces) place x stop =
    (bytes behind : List ℕ) × LongestToken (unblanked x) piece.token bytes behind
    × (piece.start ≡ place + blanks x) × (piece.end ≡ piece.start + length bytes)
    × Cuts pieces piece.end behind stop
