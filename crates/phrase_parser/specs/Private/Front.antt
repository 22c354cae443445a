-- The token that a text begins with, as a function: a model of the code, which proofs compare with the longest token.
use Rattle.std.specs.Prelude.{ℕ, ◌+◌, min, Bool, true, false, ◌&&◌, ◌==◌, not, nat_le, if◌then◌else◌, List, [], ◌∷◌, take, drop, Option, Some, None}
use Rattle.std.specs.List.{prefix_len}
use Rattle.phrase_parser.specs.Private.PlacedToken.{greatest_kept}
use Rattle.plcs_base.specs.Text.{longest_text}
use Rattle.plcs_base.specs.Byte.{is_letter, is_digit, is_name_byte, is_printable, is_blank}
use Rattle.plcs_base.specs.Name.{is_name, longest_name}
use Rattle.plcs_grammar.specs.Token.{begins_with, is_quote, numeral_value}
use Rattle.plcs_grammar.specs.declared.sign.Sign.{Sign}
use Rattle.plcs_grammar.specs.Sign.{sign_of}
use Rattle.phrase_parser.specs.declared.byte_class.ByteClass.{ByteClass}
use Rattle.phrase_parser.specs.declared.byte_class.ByteClass.TheVariants as class
use Rattle.phrase_parser.specs.declared.front.Front.{Front}
use Rattle.phrase_parser.specs.declared.token.Placed.{Placed}
use Rattle.phrase_parser.specs.declared.token.TokenKind.TheVariants as kind

-- whether a byte is of the class of which a run is counted at the front of a text
abbrev pub is_in : ByteClass → ℕ → Bool
is_in class.Blank = is_blank
is_in class.Digit = is_digit
is_in class.NameByte = is_name_byte

-- whether what stands behind the front of a text ends a word: no letter, digit or `_` follows
abbrev pub ends_word : List ℕ → Bool
ends_word behind = not (begins_with is_name_byte behind)

-- the name or keyword that the first so many bytes of a text are
abbrev pub front_of_word : ℕ → List ℕ → Option Front
front_of_word length x =
    if nat_le length longest_name
    then Some (record { kind = if is_name (take length x) then kind.Name else kind.Keyword; length = length })
    else None

-- the name or keyword at the front of a text: the letters, digits and `_` that it begins with
abbrev pub word_front : List ℕ → Option Front
word_front x = front_of_word (prefix_len is_name_byte x) x

-- the token at the front of a text that is a number of so many digits, with the number as it is kept
abbrev pub number_kept : ℕ → List ℕ → Front
number_kept length x =
    record { kind = kind.Number (min (numeral_value (take length x)) greatest_kept); length = length }

-- the number at the front of a text: the digits that it begins with
abbrev pub number_front : List ℕ → Front
number_front x = number_kept (prefix_len is_digit x) x

-- the bit for which the digit stands in the token that a text begins with, where that is a bit constant
abbrev pub bit_value : ℕ → Option Bool
bit_value digit = if digit == 48 then Some false else if digit == 49 then Some true else None

-- the bit constant that the text begins with
abbrev pub bit_constant : List ℕ → Option Bool
bit_constant (a ∷ digit ∷ c ∷ d ∷ behind) =
    if (a == 39) && ((c == 39) && ((d == 66) && ends_word behind)) then bit_value digit else None
bit_constant (a ∷ digit ∷ c ∷ []) = None
bit_constant (a ∷ digit ∷ []) = None
bit_constant (a ∷ []) = None
bit_constant [] = None

-- where a character constant at the front of a text ends, if its value has so few bytes that it is one
abbrev pub end_if_short : ℕ → ℕ → Option ℕ
end_if_short end content = if nat_le content longest_text then Some end else None

abbrev mutual
  -- how many bytes a character constant at the front of a text has, where so many are read, with so many of its
  -- value, and x is left
  pub constant_end : ℕ → ℕ → List ℕ → Option ℕ
  constant_end read content [] = None
  constant_end read content (byte ∷ rest) =
      if is_quote byte then constant_end_at_quote read content rest
      else if is_printable byte then constant_end (read + 1) (content + 1) rest
      else None

  -- how many bytes a character constant at the front of a text has, where a quote of it was read and x is left
  pub constant_end_at_quote : ℕ → ℕ → List ℕ → Option ℕ
  constant_end_at_quote read content [] = end_if_short (read + 1) content
  constant_end_at_quote read content (byte ∷ rest) =
      if is_quote byte then constant_end (read + 2) (content + 1) rest else end_if_short (read + 1) content

-- the front that a bit constant is, or else a character constant of so many bytes
abbrev pub constant_of : Option Bool → Option ℕ → Option Front
constant_of (Some bit) length = Some (record { kind = kind.Bit bit; length = 4 })
constant_of None (Some length) = Some (record { kind = kind.Text; length = length })
constant_of None None = None

-- the constant at the front of a text whose first byte is a quote: a bit constant, or else a character constant
abbrev pub constant_front : List ℕ → Option Front
constant_front x = constant_of (bit_constant x) (constant_end 1 0 (drop 1 x))

-- the sign that the first two bytes at the front of a text are, if there is a second
abbrev pub double_at : ℕ → List ℕ → Option Sign
double_at first [] = None
double_at first (second ∷ rest) = sign_of (first ∷ second ∷ [])

-- the front that a sign of so many bytes is
abbrev pub sign_kept : Sign → ℕ → Front
sign_kept s length = record { kind = kind.Sign s; length = length }

-- the front that a sign of two bytes is, or else one of one byte
abbrev pub longer_sign : Option Sign → Option Sign → Option Front
longer_sign (Some double) single = Some (sign_kept double 2)
longer_sign None (Some single) = Some (sign_kept single 1)
longer_sign None None = None

-- the sign at the front of a text: of its first two bytes, or else of the first
abbrev pub sign_front : ℕ → List ℕ → Option Front
sign_front first rest = longer_sign (double_at first rest) (sign_of (first ∷ []))

-- the token that the text begins with
abbrev pub front_of : List ℕ → Option Front
front_of [] = None
front_of (first ∷ rest) =
    if is_quote first then constant_front (first ∷ rest)
    else if is_letter first then word_front (first ∷ rest)
    else if is_digit first then Some (number_front (first ∷ rest))
    else sign_front first rest

-- the token that a text begins with, as the function gives it, with its places, where the text stands at this place
abbrev pub placed_at : ℕ → Option Front → Option Placed
placed_at start None = None
placed_at start (Some front) = Some (record { kind = front.kind; start = start; end = start + front.length })
