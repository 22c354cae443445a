-- Which bytes are which token, and which token is the longest at the front of a text.
use Rattle.std.specs.Prelude.{◌≡◌, ℕ, ◌-◌, ◌≤◌, ◌==◌, Bool, true, false, not, if◌then◌else◌, List, [], ◌∷◌, ◌++◌, map, length, codes, IsTrue}
use Rattle.std.specs.List.{list_all}
use Rattle.std.specs.Int.Digits.{number_from_digits}
use Rattle.plcs_base.specs.Byte.{is_digit, is_name_byte, is_printable}
use Rattle.plcs_base.specs.Name.{is_keyword, IsName}
use Rattle.plcs_base.specs.Text.{IsTextValue}
use Rattle.plcs_grammar.specs.declared.sign.Sign.{Sign}
use Rattle.plcs_grammar.specs.Sign.{sign_bytes}

-- a token; a number may be of any size, and a constant is its value
pub data Token : Type 0 where
  name : List ℕ → Token
  keyword : List ℕ → Token
  number : ℕ → Token
  text : List ℕ → Token
  bit : Bool → Token
  sign : Sign → Token

-- whether what stands behind a token begins with a byte that passes the test
abbrev pub begins_with : (ℕ → Bool) → List ℕ → Bool
begins_with test [] = false
begins_with test (byte ∷ rest) = test byte

-- the byte of a quote, as it stands around tokens that are constants
abbrev pub quote : ℕ
quote = 39

-- whether the byte is a quote, as it stands around tokens that are constants
abbrev pub is_quote : ℕ → Bool
is_quote byte = byte == quote

-- a byte of a character constant's value as it is written between quotes: a quote twice
abbrev pub doubled : ℕ → List ℕ
doubled byte = if is_quote byte then quote ∷ quote ∷ [] else byte ∷ []

-- a character constant's value with each quote written twice
abbrev pub with_quotes_doubled : List ℕ → List ℕ
with_quotes_doubled [] = []
with_quotes_doubled (byte ∷ rest) = doubled byte ++ with_quotes_doubled rest

-- how a token that is a character constant is written: its value between quotes, with each quote in it twice
abbrev pub quoted : List ℕ → List ℕ
quoted bytes = quote ∷ (with_quotes_doubled bytes ++ (quote ∷ []))

-- how a token that is a bit constant is written
abbrev pub bit_bytes : Bool → List ℕ
bit_bytes false = codes "'0'B"
bit_bytes true = codes "'1'B"

-- the bytes are a numeral: one digit or more
abbrev pub IsNumeral : List ℕ → Type 0
IsNumeral bytes = (1 ≤ length bytes) × IsTrue (list_all is_digit bytes)

-- the value of a numeral: the number that its digits write
abbrev pub numeral_value : List ℕ → ℕ
numeral_value digits = number_from_digits 10 (map (λ digit. digit - 48) digits)

-- what stands behind a token ends a word: no letter, digit or `_` follows
abbrev pub EndsWord : List ℕ → Type 0
EndsWord behind = IsTrue (not (begins_with is_name_byte behind))

-- what may be the value of a token that is a character constant: at most 256 bytes, each from 32 to 126
abbrev pub IsConstantText : List ℕ → Type 0
IsConstantText bytes = IsTextValue bytes × IsTrue (list_all is_printable bytes)

-- the bytes are the token, where these others stand behind them
abbrev pub IsToken : Token → List ℕ → List ℕ → Type 0
IsToken (name n) bytes behind = (bytes ≡ n) × IsName n × EndsWord behind
IsToken (keyword word) bytes behind = (bytes ≡ word) × IsTrue (is_keyword word) × EndsWord behind
IsToken (number n) bytes behind = IsNumeral bytes × (numeral_value bytes ≡ n)
IsToken (text value) bytes behind =
    (bytes ≡ quoted value) × IsConstantText value × IsTrue (not (begins_with is_quote behind))
IsToken (bit value) bytes behind = (bytes ≡ bit_bytes value) × EndsWord behind
IsToken (sign s) bytes behind = bytes ≡ sign_bytes s

-- x is the bytes of the token and what stands behind them, and no longer token stands at the front of x
pub record LongestToken (x : List ℕ) (token : Token) (bytes behind : List ℕ) : Type 0 where
  pub whole : x ≡ bytes ++ behind
  pub is_token : IsToken token bytes behind
  pub longest : (other : Token) (front back : List ℕ) → x ≡ front ++ back → IsToken other front back
      → length front ≤ length bytes

-- no token can be made at the front of x
abbrev pub NoToken : List ℕ → Type 0
NoToken x = (token : Token) (bytes behind : List ℕ) → x ≡ bytes ++ behind → ¬ (IsToken token bytes behind)
