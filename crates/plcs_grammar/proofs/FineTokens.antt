-- Tokens of a text: what is known of their names and constants.
use Rattle.std.proofs.Common.{ℕ, List, [], ◌∷◌, ◌++◌, Option}
use Rattle.std.specs.Prelude.{IsTrue}
use Rattle.std.specs.List.{list_all}
use Rattle.plcs_base.specs.Byte.{is_printable}
use Rattle.plcs_base.specs.Name.{IsName}
use Rattle.plcs_grammar.specs.Token.{Token, IsToken}
use Rattle.plcs_grammar.specs.Cuts.{Piece, Cuts, tokens_of}
use Rattle.plcs_grammar.specs.Level.{in_parentheses}

-- the token is fine: the bytes of a name are a name, and those of a character constant are printable
abbrev pub IsFine : Token → Type 0
IsFine (Token.name n) = IsName n
IsFine (Token.keyword word) = Unit {0}
IsFine (Token.number n) = Unit {0}
IsFine (Token.text value) = IsTrue (list_all is_printable value)
IsFine (Token.bit value) = Unit {0}
IsFine (Token.sign s) = Unit {0}

abbrev pub AllFine : List Token → Type 0
AllFine [] = Unit {0}
AllFine (token ∷ tokens) = IsFine token × AllFine tokens

pub fine_parts : (left right : List Token) → AllFine (left ++ right) → AllFine left × AllFine right
fine_parts [] right fine = (tt, fine)
fine_parts (token ∷ left) right fine = let parts = fine_parts left right fine.1 in ((fine.0, parts.0), parts.1)

pub fine_inside : (tokens : List Token) → AllFine (in_parentheses tokens) → AllFine tokens
fine_inside tokens fine = (fine_parts tokens _ fine.1).0

token_fine : (token : Token) (bytes behind : List ℕ) → IsToken token bytes behind → IsFine token
token_fine (Token.name n) bytes behind is = is.1
token_fine (Token.keyword word) bytes behind is = tt
token_fine (Token.number n) bytes behind is = tt
token_fine (Token.text value) bytes behind is = is.1.1
token_fine (Token.bit value) bytes behind is = tt
token_fine (Token.sign s) bytes behind is = tt

-- the tokens that a text is cut into are fine
pub cuts_fine : (pieces : List Piece) (place : ℕ) (x : List ℕ) (stop : Option ℕ) → Cuts pieces place x stop → AllFine (tokens_of pieces)
cuts_fine [] place x stop cuts = tt
cuts_fine (piece ∷ pieces) place x stop cuts =
    (token_fine piece.token cuts.0 cuts.1 cuts.2.is_token, cuts_fine pieces piece.end cuts.1 stop cuts.5)
