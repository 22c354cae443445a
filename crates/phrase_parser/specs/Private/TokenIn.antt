-- What a token that is kept with its place is by its bytes in the text, and when these are of its kind.
use Rattle.std.specs.Prelude.{◌≡◌, ℕ, ◌-◌, ◌≤◌, List, length, slice_range}
use Rattle.plcs_grammar.specs.Limit.{greatest_number}
use Rattle.plcs_base.specs.Name.{IsName}
use Rattle.plcs_grammar.specs.Token.{Token, quoted, IsConstantText}
use Rattle.phrase_parser.specs.Private.Unquoted.{undoubled}
use Rattle.phrase_parser.specs.declared.token.TokenKind.{TokenKind}
use Rattle.phrase_parser.specs.declared.token.TokenKind.TheVariants as kind
use Rattle.phrase_parser.specs.declared.token.Placed.{Placed}

-- the bytes that a token in its text has between its quotes, where it is a character constant
abbrev pub between_quotes : List ℕ → List ℕ
between_quotes bytes = slice_range bytes 1 (length bytes - 1)

-- what a token of the kind is that has these bytes in its text
abbrev pub token_from : TokenKind → List ℕ → Token
token_from kind.Name bytes = Token.name bytes
token_from kind.Keyword bytes = Token.keyword bytes
token_from (kind.Number n) bytes = Token.number n
token_from kind.Text bytes = Token.text (undoubled (between_quotes bytes))
token_from (kind.Bit value) bytes = Token.bit value
token_from (kind.Sign s) bytes = Token.sign s

-- the bytes of a token that stands in the text
abbrev pub bytes_in : List ℕ → Placed → List ℕ
bytes_in text placed = slice_range text placed.start placed.end

-- the token that a token with its place is in the text
abbrev pub token_in : List ℕ → Placed → Token
token_in text placed = token_from placed.kind (bytes_in text placed)

-- the bytes of a token in its text are a character constant: such a value in quotes
pub record IsConstant (bytes : List ℕ) : Type 0 where
  pub value : List ℕ
  pub whole : bytes ≡ quoted value
  pub content : IsConstantText value

-- what the builder needs of the bytes that a token is in its text, by its kind: a name's are a name, a character
-- constant's are one, and a number is one that an expression can hold
abbrev pub IsOfKind : TokenKind → List ℕ → Type 0
IsOfKind kind.Name bytes = IsName bytes
IsOfKind kind.Keyword bytes = Unit {0}
IsOfKind (kind.Number n) bytes = n ≤ greatest_number
IsOfKind kind.Text bytes = IsConstant bytes
IsOfKind (kind.Bit value) bytes = Unit {0}
IsOfKind (kind.Sign s) bytes = Unit {0}

-- the token's bytes lie in the text
pub record LiesIn (text : List ℕ) (placed : Placed) : Type 0 where
  pub ordered : placed.start ≤ placed.end
  pub within : placed.end ≤ length text

-- the token lies in the text, and has what the builder needs of its kind
pub record IsPlacedIn (text : List ℕ) (placed : Placed) : Type 0 where
  pub lies : LiesIn text placed
  pub kind : IsOfKind placed.kind (bytes_in text placed)
