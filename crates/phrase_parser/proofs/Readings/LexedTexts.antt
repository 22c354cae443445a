-- Texts as they are cut whatever stands round them: what is written token after token is cut into these tokens.
use Rattle.std.proofs.Common.{◌≡◌, ℕ, suc, ◌+◌, ◌<◌, ◌^◌, Bool, true, false, ◌||◌, eqb, List, [], ◌∷◌, ◌++◌, length, drop, refl, sym, ap, ◌∙◌, subst, arith, Option, Some, None}
use Rattle.std.specs.Prelude.{decimal}
use Rattle.std.specs.List.{list_all}
use Rattle.std.proofs.lemmas.Bool.{and_parts, or_parts, false≢true, not_from_false}
use Rattle.std.proofs.lemmas.Bool.Decides.{nat_tests}
use Rattle.std.proofs.lemmas.List.{append_assoc, append-nil, length-append, map-append}
use Rattle.plcs_base.specs.Byte.{is_letter, is_digit, is_name_byte, is_blank}
use Rattle.plcs_base.specs.Name.{is_word, IsName}
use Rattle.plcs_grammar.specs.declared.sign.Sign.{Sign}
use Rattle.plcs_grammar.specs.Sign.{sign_bytes}
use Rattle.plcs_grammar.specs.Token.{Token, IsToken, LongestToken, NoToken, IsNumeral, IsConstantText, begins_with, is_quote, numeral_value, quoted, bit_bytes}
use Rattle.plcs_grammar.specs.Cuts.{Piece, Cuts, blanks, unblanked, tokens_of}
use Rattle.phrase_parser.specs.declared.front.Front.{Front}
use Rattle.phrase_parser.specs.Private.PlacedToken.{kept_kind}
use Rattle.phrase_parser.specs.Private.Front.{front_of}
use Rattle.phrase_parser.proofs.Tokens.ByteRuns.{run_none}
use Rattle.phrase_parser.proofs.Tokens.LongestFront.{EndsSign, is_second, name_found, number_found, text_found, bit_found, sign_found}
use Rattle.phrase_parser.proofs.Tokens.FrontTokens.{found_tells}
use Rattle.phrase_parser.proofs.Tokens.OneCut.{found_first}
use Rattle.phrase_parser.proofs.Tokens.Numerals.{decimal_numeral}
use Rattle.phrase_parser.proofs.Tokens.Words.{name_word, keyword_word}

-- with y behind it, x is cut into the tokens, wherever it stands and whatever follows
pub record Lexed (x : List ℕ) (tokens : List Token) (y : List ℕ) : Type 0 where
  pub pieces : ℕ → List Piece
  pub same : (place : ℕ) → tokens_of (pieces place) ≡ tokens
  pub cuts : (place : ℕ) (rest : List Piece) (stop : Option ℕ) → Cuts rest (place + length x) y stop
      → Cuts (pieces place ++ rest) place (x ++ y) stop

-- the empty text is cut into no tokens
pub lexed_empty : (y : List ℕ) → Lexed [] [] y
lexed_empty y = record {
  pieces = λ place. [];
  same = λ place. refl;
  cuts = λ place rest stop h. subst (λ (n : ℕ). Cuts rest n y stop) (let e : place + 0 ≡ place = omega arith in e) h;
}

-- one text and then another are cut into the tokens of the one and then of the other
pub lexed_append : (x z : List ℕ) (tokens more : List Token) (y : List ℕ) → Lexed x tokens (z ++ y) → Lexed z more y
    → Lexed (x ++ z) (tokens ++ more) y
lexed_append x z tokens more y a b = record {
  pieces = λ place. a.pieces place ++ b.pieces (place + length x);
  same = λ place.
      map-append (λ (p : Piece). p.token) (a.pieces place) (b.pieces (place + length x))
      ∙ ap (λ (ts : List Token). ts ++ tokens_of (b.pieces (place + length x))) (a.same place)
      ∙ ap (λ (ts : List Token). tokens ++ ts) (b.same (place + length x));
  cuts = λ place rest stop h.
      let further : place + length (x ++ z) ≡ (place + length x) + length z = omega (arith, length-append x z) in
      let behind = b.cuts (place + length x) rest stop (subst (λ (n : ℕ). Cuts rest n y stop) further h) in
      subst (λ (t : List ℕ). Cuts ((a.pieces place ++ b.pieces (place + length x)) ++ rest) place t stop) (sym (append_assoc x z y))
      (subst (λ (ps : List Piece). Cuts ps place (x ++ (z ++ y)) stop) (sym (append_assoc (a.pieces place) (b.pieces (place + length x)) rest))
      (a.cuts place (b.pieces (place + length x) ++ rest) stop behind));
}

blanks_more : (x : List ℕ) → blanks (32 ∷ x) ≡ 1 + blanks x
blanks_more x = refl

unblanked_more : (x : List ℕ) → unblanked (32 ∷ x) ≡ unblanked x
unblanked_more x = let e : 1 + blanks x ≡ suc (blanks x) = omega arith in ap (λ (n : ℕ). drop n (32 ∷ x)) e

-- a blank in front of a text only moves its pieces
cuts_blank : (pieces : List Piece) (place : ℕ) (x : List ℕ) (stop : Option ℕ) → Cuts pieces (place + 1) x stop
    → Cuts pieces place (32 ∷ x) stop
cuts_blank [] place x None h = unblanked_more x ∙ h
cuts_blank [] place x (Some stop) (more, none, at) =
    (λ e. more (sym (unblanked_more x) ∙ e), subst NoToken (sym (unblanked_more x)) none, omega (arith, at, blanks_more x))
cuts_blank (piece ∷ pieces) place x stop (bytes, behind, first, start, end, rest) = (
  bytes,
  behind,
  subst (λ (y : List ℕ). LongestToken y piece.token bytes behind) (sym (unblanked_more x)) first,
  omega (arith, start, blanks_more x),
  end,
  rest,
)

-- a text with a blank in front is cut into the same tokens
pub lexed_blank : (x : List ℕ) (tokens : List Token) (y : List ℕ) → Lexed x tokens y → Lexed (32 ∷ x) tokens y
lexed_blank x tokens y a = record {
  pieces = λ place. a.pieces (place + 1);
  same = λ place. a.same (place + 1);
  cuts = λ place rest stop h.
      let further : place + suc (length x) ≡ (place + 1) + length x = omega arith in
      cuts_blank (a.pieces (place + 1) ++ rest) place (x ++ y) stop (a.cuts (place + 1) rest stop (subst (λ (n : ℕ). Cuts rest n y stop) further h));
}

-- no token begins with a blank
letter_not_blank : (byte : ℕ) → is_letter byte ≡ true → is_blank byte ≡ false
letter_not_blank byte h = grind (arith, nat_tests)

digit_not_blank : (byte : ℕ) → is_digit byte ≡ true → is_blank byte ≡ false
digit_not_blank byte h = grind (arith, nat_tests)

word_not_blank : (w behind : List ℕ) → is_word w ≡ true → begins_with is_blank (w ++ behind) ≡ false
word_not_blank [] behind word = absurd (false≢true word)
word_not_blank (first ∷ rest) behind word = letter_not_blank first (and_parts (is_letter first) (list_all is_name_byte rest) word).0

numeral_not_blank : (digits behind : List ℕ) → IsNumeral digits → begins_with is_blank (digits ++ behind) ≡ false
numeral_not_blank [] behind numeral = absurd (omega (arith, numeral.0))
numeral_not_blank (first ∷ rest) behind numeral = digit_not_blank first (and_parts (is_digit first) (list_all is_digit rest) numeral.1).0

bit_not_blank : (bit : Bool) (behind : List ℕ) → begins_with is_blank (bit_bytes bit ++ behind) ≡ false
bit_not_blank false behind = refl
bit_not_blank true behind = refl

sign_not_blank : (s : Sign) (behind : List ℕ) → begins_with is_blank (sign_bytes s ++ behind) ≡ false
sign_not_blank Sign.Plus behind = refl
sign_not_blank Sign.Minus behind = refl
sign_not_blank Sign.Times behind = refl
sign_not_blank Sign.Divide behind = refl
sign_not_blank Sign.Join behind = refl
sign_not_blank Sign.Equal behind = refl
sign_not_blank Sign.NotEqual behind = refl
sign_not_blank Sign.Less behind = refl
sign_not_blank Sign.LessEqual behind = refl
sign_not_blank Sign.Greater behind = refl
sign_not_blank Sign.GreaterEqual behind = refl
sign_not_blank Sign.Ampersand behind = refl
sign_not_blank Sign.Bar behind = refl
sign_not_blank Sign.Caret behind = refl
sign_not_blank Sign.OpenParenthesis behind = refl
sign_not_blank Sign.CloseParenthesis behind = refl
sign_not_blank Sign.Comma behind = refl

-- where a token stands, no blank does
pub token_not_blank : (token : Token) (bytes behind : List ℕ) → IsToken token bytes behind
    → begins_with is_blank (bytes ++ behind) ≡ false
token_not_blank (Token.name n) bytes behind is = word_not_blank bytes behind (ap is_word is.0 ∙ name_word n is.1)
token_not_blank (Token.keyword word) bytes behind is = word_not_blank bytes behind (ap is_word is.0 ∙ keyword_word word is.1)
token_not_blank (Token.number n) bytes behind is = numeral_not_blank bytes behind is.0
token_not_blank (Token.text value) bytes behind is = ap (λ (b : List ℕ). begins_with is_blank (b ++ behind)) is.0
token_not_blank (Token.bit bit) bytes behind is = ap (λ (b : List ℕ). begins_with is_blank (b ++ behind)) is.0 ∙ bit_not_blank bit behind
token_not_blank (Token.sign s) bytes behind is = ap (λ (b : List ℕ). begins_with is_blank (b ++ behind)) is ∙ sign_not_blank s behind

-- a text that is its longest token is cut into it alone
pub lexed_first : (token : Token) (bytes behind : List ℕ) → LongestToken (bytes ++ behind) token bytes behind
    → Lexed bytes (token ∷ []) behind
lexed_first token bytes behind first =
    let none : blanks (bytes ++ behind) ≡ 0 = run_none is_blank (bytes ++ behind) (token_not_blank token bytes behind first.is_token) in
    let here : unblanked (bytes ++ behind) ≡ bytes ++ behind = ap (λ (n : ℕ). drop n (bytes ++ behind)) none in
    record {
      pieces = λ place. record { token = token; start = place; end = place + length bytes } ∷ [];
      same = λ place. refl;
      cuts = λ place rest stop h.
          (bytes, behind, subst (λ (x : List ℕ). LongestToken x token bytes behind) (sym here) first, omega (arith, none), refl, h);
    }

-- a token is the longest where something of its length is found
first_if_found : (token : Token) (bytes behind : List ℕ) → IsToken token bytes behind
    → front_of (bytes ++ behind) ≡ Some (record { kind = kept_kind token; length = length bytes }) → LongestToken (bytes ++ behind) token bytes behind
first_if_found token bytes behind is found =
    let front : Front = record { kind = kept_kind token; length = length bytes } in
    let told = found_tells (bytes ++ behind) front found in
    let first = found_first (bytes ++ behind) front found told in
    record {
      whole = refl;
      is_token = is;
      longest = λ other ahead back cut is_other. omega (arith, told.same_length, first.longest other ahead back cut is_other);
    }

-- a name, where no further byte of a name follows
pub name_first : (n behind : List ℕ) → IsName n → begins_with is_name_byte behind ≡ false
    → LongestToken (n ++ behind) (Token.name n) n behind
name_first n behind named ends =
    first_if_found (Token.name n) n behind (refl, named, not_from_false _ ends) (name_found n behind named ends)

-- a number, where no further digit follows
pub number_first : (digits behind : List ℕ) → IsNumeral digits → begins_with is_digit behind ≡ false
    → LongestToken (digits ++ behind) (Token.number (numeral_value digits)) digits behind
number_first digits behind numeral ends =
    first_if_found (Token.number (numeral_value digits)) digits behind (numeral, refl) (number_found digits behind numeral ends)

-- a character constant, where neither a quote nor a byte of a name follows
pub text_first : (value behind : List ℕ) → IsConstantText value → begins_with is_quote behind ≡ false
    → begins_with is_name_byte behind ≡ false
    → LongestToken (quoted value ++ behind) (Token.text value) (quoted value) behind
text_first value behind fits closed ends =
    first_if_found (Token.text value) (quoted value) behind (refl, fits, not_from_false _ closed) (text_found value behind fits closed ends)

-- a bit constant, where no byte of a name follows
pub bit_first : (bit : Bool) (behind : List ℕ) → begins_with is_name_byte behind ≡ false
    → LongestToken (bit_bytes bit ++ behind) (Token.bit bit) (bit_bytes bit) behind
bit_first bit behind ends = first_if_found (Token.bit bit) (bit_bytes bit) behind (refl, not_from_false _ ends) (bit_found bit behind ends)

-- a sign, where neither `=` nor `|` follows
pub sign_first : (s : Sign) (behind : List ℕ) → EndsSign behind
    → LongestToken (sign_bytes s ++ behind) (Token.sign s) (sign_bytes s) behind
sign_first s behind ends = first_if_found (Token.sign s) (sign_bytes s) behind refl (sign_found s behind ends)

-- the bytes that could make a token in front of them longer, or another one
abbrev pub can_prolong : ℕ → Bool
can_prolong byte = is_name_byte byte || (is_quote byte || is_second byte)

-- nothing, or a byte that leaves each token in front of it as it is, as a blank, a parenthesis or a comma does (by
-- `refl`)
abbrev pub Safe : List ℕ → Type 0
Safe behind = begins_with can_prolong behind ≡ false

-- what is safe ends a word
pub safe_word : (behind : List ℕ) → Safe behind → begins_with is_name_byte behind ≡ false
safe_word [] safe = refl
safe_word (byte ∷ rest) safe = (or_parts (is_name_byte byte) (is_quote byte || is_second byte) safe).0

-- what is safe doubles no quote
pub safe_quote : (behind : List ℕ) → Safe behind → begins_with is_quote behind ≡ false
safe_quote [] safe = refl
safe_quote (byte ∷ rest) safe =
    (or_parts (is_quote byte) (is_second byte) (or_parts (is_name_byte byte) (is_quote byte || is_second byte) safe).1).0

-- what is safe ends a sign
pub safe_sign : (behind : List ℕ) → Safe behind → EndsSign behind
safe_sign [] safe = refl
safe_sign (byte ∷ rest) safe =
    (or_parts (is_quote byte) (is_second byte) (or_parts (is_name_byte byte) (is_quote byte || is_second byte) safe).1).1

-- what is safe ends a number
pub safe_digit : (behind : List ℕ) → Safe behind → begins_with is_digit behind ≡ false
safe_digit [] safe = refl
safe_digit (byte ∷ rest) safe =
    let word = or_parts (is_letter byte) (is_digit byte || eqb byte 95) (safe_word (byte ∷ rest) safe) in
    (or_parts (is_digit byte) (eqb byte 95) word.1).0

-- one name, where what follows is safe
pub lexed_name : (n behind : List ℕ) → IsName n → Safe behind → Lexed n (Token.name n ∷ []) behind
lexed_name n behind named safe = lexed_first (Token.name n) n behind (name_first n behind named (safe_word behind safe))

-- one number in decimal, where what follows is safe
pub lexed_number : (n : ℕ) (behind : List ℕ) → n < 2 ^ 64 → Safe behind → Lexed (decimal n) (Token.number n ∷ []) behind
lexed_number n behind fits safe =
    let numeral = decimal_numeral n fits in
    subst (λ (m : ℕ). Lexed (decimal n) (Token.number m ∷ []) behind) numeral.1
    (lexed_first (Token.number (numeral_value (decimal n))) (decimal n) behind (number_first (decimal n) behind numeral.0 (safe_digit behind safe)))

-- one character constant, where what follows is safe
pub lexed_text : (value behind : List ℕ) → IsConstantText value → Safe behind
    → Lexed (quoted value) (Token.text value ∷ []) behind
lexed_text value behind fits safe =
    lexed_first (Token.text value) (quoted value) behind (text_first value behind fits (safe_quote behind safe) (safe_word behind safe))

-- one bit constant, where what follows is safe
pub lexed_bit : (bit : Bool) (behind : List ℕ) → Safe behind → Lexed (bit_bytes bit) (Token.bit bit ∷ []) behind
lexed_bit bit behind safe = lexed_first (Token.bit bit) (bit_bytes bit) behind (bit_first bit behind (safe_word behind safe))

-- a sign also before an operand or another sign, if that doesn't begin with `=` or `|`
pub lexed_sign : (s : Sign) (behind : List ℕ) → EndsSign behind → Lexed (sign_bytes s) (Token.sign s ∷ []) behind
lexed_sign s behind ends = lexed_first (Token.sign s) (sign_bytes s) behind (sign_first s behind ends)

-- a whole text is cut into its tokens
pub lexed_whole : (x : List ℕ) (tokens : List Token) → Lexed x tokens []
    → (pieces : List Piece) × Cuts pieces 0 x None × (tokens_of pieces ≡ tokens)
lexed_whole x tokens a = (
  a.pieces 0,
  subst (λ (y : List ℕ). Cuts (a.pieces 0) 0 y None) (append-nil x)
      (subst (λ (ps : List Piece). Cuts ps 0 (x ++ []) None) (append-nil (a.pieces 0)) (a.cuts 0 [] None refl)),
  a.same 0,
)
