-- No token at the front of a text is longer than the one that the model of the code finds there.
use Rattle.std.proofs.Common.{◌≡◌, ℕ, ◌<◌, ◌≤◌, ◌⊎◌, min, Bool, true, false, not, ◌&&◌, ◌||◌, cond, eqb, List, [], ◌∷◌, ◌++◌, length, take, drop, refl, sym, ap, ◌∙◌, subst, inl, inr, arith, lit≤, Option, Some, None}
use Rattle.std.specs.Prelude.{nat_le, IsTrue, bytes_eq, find}
use Rattle.std.specs.List.{list_all, prefix_len}
use Rattle.std.proofs.lemmas.Bool.{or_parts, and_parts, and_right, cond-true, cond-false, le-leb, cases_Bool, not-true, not_from_false, not_from_true, false≢true}
use Rattle.std.proofs.lemmas.Bool.Decides.{nat_tests}
use Rattle.std.proofs.lemmas.Option.{same_Some}
use Rattle.std.proofs.lemmas.List.{take_at, drop_at}
use Rattle.plcs_base.specs.Byte.{is_letter, is_digit, is_name_byte}
use Rattle.plcs_base.specs.Name.{is_keyword, is_word, is_name, IsName, longest_name}
use Rattle.plcs_grammar.specs.declared.sign.Sign.{Sign}
use Rattle.plcs_grammar.specs.Sign.{signs, sign_bytes}
use Rattle.plcs_grammar.specs.Token.{Token, IsToken, IsNumeral, IsConstantText, begins_with, is_quote, numeral_value, quoted, bit_bytes}
use Rattle.phrase_parser.specs.declared.front.Front.{Front}
use Rattle.phrase_parser.specs.declared.token.TokenKind.{TokenKind}
use Rattle.phrase_parser.specs.declared.token.TokenKind.TheVariants as kind
use Rattle.phrase_parser.specs.Private.PlacedToken.{kept_kind, greatest_kept}
use Rattle.phrase_parser.specs.Private.Front.{front_of, front_of_word, word_front, number_kept, number_front, constant_of, constant_front, bit_constant, constant_end, longer_sign, sign_front, double_at, ends_word}
use Rattle.phrase_parser.proofs.Tokens.ByteRuns.{run_append, run_none, run_begins}
use Rattle.phrase_parser.proofs.Tokens.QuotedTexts.{quoted_read, quoted_append}
use Rattle.phrase_parser.proofs.Tokens.FrontTokens.{BeginsBit, bit_tells, bit_read}
use Rattle.phrase_parser.proofs.Tokens.Words.{word_bytes, keyword_word, keyword_short, name_word, name_short}

-- the front that is found is longer than a token, or as long and of the same kind
abbrev pub Covers : TokenKind → ℕ → Option Front → Type 0
Covers k n None = ⊥
Covers k n (Some front) = (n < front.length) ⊎ ((n ≡ front.length) × (k ≡ front.kind))

-- the front of a token of the kind and of so many bytes
abbrev front_with : TokenKind → ℕ → Front
front_with k n = record { kind = k; length = n }

-- where exactly this front is found, it is as long as the token and of the same kind
abbrev pub Finds : List ℕ → TokenKind → ℕ → Type 0
Finds x k n = front_of x ≡ Some (record { kind = k; length = n })

covers_found : (x : List ℕ) (k : TokenKind) (n : ℕ) → Finds x k n → Covers k n (front_of x)
covers_found x k n h = subst (λ (o : Option Front). Covers k n o) (sym h) (inr (refl, refl))

letter_not_quote : (byte : ℕ) → is_letter byte ≡ true → is_quote byte ≡ false
letter_not_quote byte h = grind (arith, nat_tests)

digit_not_quote : (byte : ℕ) → is_digit byte ≡ true → is_quote byte ≡ false
digit_not_quote byte h = grind (arith, nat_tests)

digit_not_letter : (byte : ℕ) → is_digit byte ≡ true → is_letter byte ≡ false
digit_not_letter byte h = grind (arith, nat_tests)

at_letter : (first : ℕ) (rest : List ℕ) → is_letter first ≡ true → front_of (first ∷ rest) ≡ word_front (first ∷ rest)
at_letter first rest letter =
    cond-false (is_quote first) (constant_front (first ∷ rest))
    (cond (is_letter first) (word_front (first ∷ rest)) (cond (is_digit first) (Some (number_front (first ∷ rest))) (sign_front first rest)))
    (letter_not_quote first letter)
    ∙ cond-true (is_letter first) (word_front (first ∷ rest)) (cond (is_digit first) (Some (number_front (first ∷ rest))) (sign_front first rest)) letter

at_digit : (first : ℕ) (rest : List ℕ) → is_digit first ≡ true → front_of (first ∷ rest) ≡ Some (number_front (first ∷ rest))
at_digit first rest digit =
    cond-false (is_quote first) (constant_front (first ∷ rest))
    (cond (is_letter first) (word_front (first ∷ rest)) (cond (is_digit first) (Some (number_front (first ∷ rest))) (sign_front first rest)))
    (digit_not_quote first digit)
    ∙ cond-false (is_letter first) (word_front (first ∷ rest)) (cond (is_digit first) (Some (number_front (first ∷ rest))) (sign_front first rest))
    (digit_not_letter first digit)
    ∙ cond-true (is_digit first) (Some (number_front (first ∷ rest))) (sign_front first rest) digit

-- ---- words

-- a short word is found, where no word goes on behind it
pub word_found : (w behind : List ℕ) → is_word w ≡ true → length w ≤ longest_name → begins_with is_name_byte behind ≡ false
    → Finds (w ++ behind) (cond (is_name w) kind.Name kind.Keyword) (length w)
word_found [] behind word short ends = absurd (false≢true word)
word_found (first ∷ rest) behind word short ends =
    let w = first ∷ rest in
    let x = w ++ behind in
    let letter = (and_parts (is_letter first) (list_all is_name_byte rest) word).0 in
    let size : prefix_len is_name_byte x ≡ length w =
    omega (arith, run_append is_name_byte w behind (word_bytes w word), run_none is_name_byte behind ends) in
    at_letter first (rest ++ behind) letter ∙ ap (λ (n : ℕ). front_of_word n x) size
    ∙ cond-true (nat_le (length w) longest_name) (Some (front_with (cond (is_name (take (length w) x)) kind.Name kind.Keyword) (length w))) None (le-leb (length w) longest_name short)
    ∙ ap (λ (u : List ℕ). Some (front_with (cond (is_name u) kind.Name kind.Keyword) (length w))) (take_at w behind (length w) refl)

-- a name is found, where no word goes on behind it
pub name_found : (n behind : List ℕ) → IsName n → begins_with is_name_byte behind ≡ false
    → Finds (n ++ behind) kind.Name (length n)
name_found n behind named ends =
    word_found n behind (name_word n named) (name_short n named) ends
    ∙ ap (λ (k : TokenKind). Some (front_with k (length n))) (cond-true (is_name n) kind.Name kind.Keyword named)

keyword_no_name : (w : List ℕ) → is_keyword w ≡ true → is_name w ≡ false
keyword_no_name w h =
    and_right (is_word w) (nat_le (length w) longest_name && not (is_keyword w))
    (and_right (nat_le (length w) longest_name) (not (is_keyword w)) (not_from_true (is_keyword w) h))

-- a keyword is found, where no word goes on behind it
pub keyword_found : (w behind : List ℕ) → IsTrue (is_keyword w) → begins_with is_name_byte behind ≡ false
    → Finds (w ++ behind) kind.Keyword (length w)
keyword_found w behind listed ends =
    word_found w behind (keyword_word w listed) (keyword_short w listed) ends
    ∙ ap (λ (k : TokenKind). Some (front_with k (length w))) (cond-false (is_name w) kind.Name kind.Keyword (keyword_no_name w listed))

-- ---- numbers

-- a number is found, where no digit follows
pub number_found : (w behind : List ℕ) → IsNumeral w → begins_with is_digit behind ≡ false
    → Finds (w ++ behind) (kind.Number (min (numeral_value w) greatest_kept)) (length w)
number_found [] behind numeral ends = absurd (omega (arith, numeral.0))
number_found (first ∷ rest) behind numeral ends =
    let w = first ∷ rest in
    let x = w ++ behind in
    let digit = (and_parts (is_digit first) (list_all is_digit rest) numeral.1).0 in
    let size : prefix_len is_digit x ≡ length w =
    omega (arith, run_append is_digit w behind numeral.1, run_none is_digit behind ends) in
    at_digit first (rest ++ behind) digit ∙ ap (λ (n : ℕ). Some (number_kept n x)) size
    ∙ ap (λ (u : List ℕ). Some (front_with (kind.Number (min (numeral_value u) greatest_kept)) (length w))) (take_at w behind (length w) refl)

longer_run : (xs ys : List ℕ) → list_all is_digit xs ≡ true → begins_with is_digit ys ≡ true
    → length xs < prefix_len is_digit (xs ++ ys)
longer_run xs [] all more = absurd (false≢true more)
longer_run xs (y ∷ ys) all more = omega (arith, run_append is_digit xs (y ∷ ys) all, run_begins is_digit y ys more)

number_covered : (w behind : List ℕ) → IsNumeral w
    → Covers (kind.Number (min (numeral_value w) greatest_kept)) (length w) (front_of (w ++ behind))
number_covered [] behind numeral = absurd (omega (arith, numeral.0))
number_covered (first ∷ rest) behind numeral =
    let w = first ∷ rest in
    let k = kind.Number (min (numeral_value w) greatest_kept) in
    let digit = (and_parts (is_digit first) (list_all is_digit rest) numeral.1).0 in
    elim (cases_Bool (begins_with is_digit behind)) [
      | inl more ↦ subst (λ (o : Option Front). Covers k (length w) o) (sym (at_digit first (rest ++ behind) digit)) (inl (longer_run w behind numeral.1 more))
      | inr ends ↦ covers_found (w ++ behind) k (length w) (number_found w behind numeral ends)
    ]

-- ---- constants

at_constant : (value behind : List ℕ) → IsConstantText value → begins_with is_quote behind ≡ false
    → front_of (quoted value ++ behind) ≡ constant_of (bit_constant (quoted value ++ behind)) (Some (length (quoted value)))
at_constant value behind fits closed =
    let x = quoted value ++ behind in
    let read = ap (λ (y : List ℕ). constant_end 1 0 (drop 1 y)) (quoted_append value behind) ∙ quoted_read value behind fits.0 fits.1 closed in
    ap (λ (n : Option ℕ). constant_of (bit_constant x) n) read

-- a bit constant that begins as a character constant does has one byte more
bit_not_text : (value behind : List ℕ) (bit : Bool) → IsConstantText value → begins_with is_quote behind ≡ false
    → BeginsBit (quoted value ++ behind) bit → length (quoted value) ≡ 3
bit_not_text value behind bit fits closed begins =
    let read = quoted_read value behind fits.0 fits.1 closed in
    let text : constant_end 1 0 (drop 1 (quoted value ++ behind)) ≡ Some (length (quoted value)) =
    ap (λ (y : List ℕ). constant_end 1 0 (drop 1 y)) (quoted_append value behind) ∙ read in
    let as_bit : constant_end 1 0 (drop 1 (quoted value ++ behind)) ≡ Some 3 =
    ap (λ (y : List ℕ). constant_end 1 0 (drop 1 y)) begins.whole ∙ bit_read bit begins.behind in
    same_Some (length (quoted value)) 3 (sym text ∙ as_bit)

text_covered_by : (value behind : List ℕ) (bit : Option Bool) → bit_constant (quoted value ++ behind) ≡ bit
    → IsConstantText value
    → begins_with is_quote behind ≡ false → Covers kind.Text (length (quoted value)) (constant_of bit (Some (length (quoted value))))
text_covered_by value behind (Some bit) is_bit fits closed =
    inl (omega (arith, bit_not_text value behind bit fits closed (bit_tells (quoted value ++ behind) bit is_bit)))
text_covered_by value behind None is_bit fits closed = inr (refl, refl)

text_covered : (value behind : List ℕ) → IsConstantText value → begins_with is_quote behind ≡ false
    → Covers kind.Text (length (quoted value)) (front_of (quoted value ++ behind))
text_covered value behind fits closed =
    subst (λ (o : Option Front). Covers kind.Text (length (quoted value)) o) (sym (at_constant value behind fits closed))
    (text_covered_by value behind (bit_constant (quoted value ++ behind)) refl fits closed)

behind_bit : (bit : Bool) (behind : List ℕ) → drop 3 (bit_bytes bit ++ behind) ≡ 66 ∷ behind
behind_bit false behind = refl
behind_bit true behind = refl

text_found_by : (value behind : List ℕ) (bit : Option Bool) → bit_constant (quoted value ++ behind) ≡ bit → IsConstantText value
    → begins_with is_quote behind ≡ false → begins_with is_name_byte behind ≡ false
    → constant_of bit (Some (length (quoted value))) ≡ Some (front_with kind.Text (length (quoted value)))
text_found_by value behind (Some bit) is_bit fits closed ends =
    let begins = bit_tells (quoted value ++ behind) bit is_bit in
    let three = bit_not_text value behind bit fits closed begins in
    let goes_on : behind ≡ 66 ∷ begins.behind =
    sym (drop_at (quoted value) behind 3 three) ∙ ap (λ (y : List ℕ). drop 3 y) begins.whole ∙ behind_bit bit begins.behind in
    absurd (false≢true (sym ends ∙ ap (begins_with is_name_byte) goes_on))
text_found_by value behind None is_bit fits closed ends = refl

-- a character constant is found, where neither a quote nor a word follows
pub text_found : (value behind : List ℕ) → IsConstantText value → begins_with is_quote behind ≡ false
    → begins_with is_name_byte behind ≡ false
    → Finds (quoted value ++ behind) kind.Text (length (quoted value))
text_found value behind fits closed ends =
    at_constant value behind fits closed ∙ text_found_by value behind (bit_constant (quoted value ++ behind)) refl fits closed ends

-- a bit constant is found, where no word follows
pub bit_found : (bit : Bool) (behind : List ℕ) → begins_with is_name_byte behind ≡ false
    → Finds (bit_bytes bit ++ behind) (kind.Bit bit) (length (bit_bytes bit))
bit_found false behind ends =
    ap (λ (b : Option Bool). constant_of b (constant_end 1 0 (48 ∷ 39 ∷ 66 ∷ behind))) (cond-true (ends_word behind) (Some false) None (not_from_false _ ends))
bit_found true behind ends =
    ap (λ (b : Option Bool). constant_of b (constant_end 1 0 (49 ∷ 39 ∷ 66 ∷ behind))) (cond-true (ends_word behind) (Some true) None (not_from_false _ ends))

-- ---- signs

covered_single : (double : Option Sign) (sign : Sign) → Covers (kind.Sign sign) 1 (longer_sign double (Some sign))
covered_single (Some other) sign = inl (lit≤ tt)
covered_single None sign = inr (refl, refl)

sign_covered : (s : Sign) (behind : List ℕ)
    → Covers (kind.Sign s) (length (sign_bytes s)) (front_of (sign_bytes s ++ behind))
sign_covered Sign.Plus behind = covered_single (double_at 43 behind) Sign.Plus
sign_covered Sign.Minus behind = covered_single (double_at 45 behind) Sign.Minus
sign_covered Sign.Times behind = covered_single (double_at 42 behind) Sign.Times
sign_covered Sign.Divide behind = covered_single (double_at 47 behind) Sign.Divide
sign_covered Sign.Join behind = inr (refl, refl)
sign_covered Sign.Equal behind = covered_single (double_at 61 behind) Sign.Equal
sign_covered Sign.NotEqual behind = inr (refl, refl)
sign_covered Sign.Less behind = covered_single (double_at 60 behind) Sign.Less
sign_covered Sign.LessEqual behind = inr (refl, refl)
sign_covered Sign.Greater behind = covered_single (double_at 62 behind) Sign.Greater
sign_covered Sign.GreaterEqual behind = inr (refl, refl)
sign_covered Sign.Ampersand behind = covered_single (double_at 38 behind) Sign.Ampersand
sign_covered Sign.Bar behind = covered_single (double_at 124 behind) Sign.Bar
sign_covered Sign.Caret behind = covered_single (double_at 94 behind) Sign.Caret
sign_covered Sign.OpenParenthesis behind = covered_single (double_at 40 behind) Sign.OpenParenthesis
sign_covered Sign.CloseParenthesis behind = covered_single (double_at 41 behind) Sign.CloseParenthesis
sign_covered Sign.Comma behind = covered_single (double_at 44 behind) Sign.Comma

-- `=` and `|`, the bytes that may be the second of a sign
abbrev pub is_second : ℕ → Bool
is_second byte = eqb byte 61 || eqb byte 124

-- nothing follows that could make a sign longer
abbrev pub EndsSign : List ℕ → Type 0
EndsSign behind = begins_with is_second behind ≡ false

-- the two bytes are no sign, where the second ends no sign
other_sign : (s : Sign) (first second : ℕ) → eqb second 61 ≡ false → eqb second 124 ≡ false
    → bytes_eq (first ∷ second ∷ []) (sign_bytes s) ≡ false
other_sign Sign.Plus first second equal bar = and_right (eqb first 43) false refl
other_sign Sign.Minus first second equal bar = and_right (eqb first 45) false refl
other_sign Sign.Times first second equal bar = and_right (eqb first 42) false refl
other_sign Sign.Divide first second equal bar = and_right (eqb first 47) false refl
other_sign Sign.Join first second equal bar = and_right (eqb first 124) (eqb second 124 && true) (ap (λ (b : Bool). b && true) bar)
other_sign Sign.Equal first second equal bar = and_right (eqb first 61) false refl
other_sign Sign.NotEqual first second equal bar = and_right (eqb first 94) (eqb second 61 && true) (ap (λ (b : Bool). b && true) equal)
other_sign Sign.Less first second equal bar = and_right (eqb first 60) false refl
other_sign Sign.LessEqual first second equal bar = and_right (eqb first 60) (eqb second 61 && true) (ap (λ (b : Bool). b && true) equal)
other_sign Sign.Greater first second equal bar = and_right (eqb first 62) false refl
other_sign Sign.GreaterEqual first second equal bar = and_right (eqb first 62) (eqb second 61 && true) (ap (λ (b : Bool). b && true) equal)
other_sign Sign.Ampersand first second equal bar = and_right (eqb first 38) false refl
other_sign Sign.Bar first second equal bar = and_right (eqb first 124) false refl
other_sign Sign.Caret first second equal bar = and_right (eqb first 94) false refl
other_sign Sign.OpenParenthesis first second equal bar = and_right (eqb first 40) false refl
other_sign Sign.CloseParenthesis first second equal bar = and_right (eqb first 41) false refl
other_sign Sign.Comma first second equal bar = and_right (eqb first 44) false refl

-- no sign is found among others, where none passes the test
none_found : (test : Sign → Bool) → ((s : Sign) → test s ≡ false) → (among : List Sign) → find test among ≡ None
none_found test fails [] = refl
none_found test fails (s ∷ others) = cond-false (test s) (Some s) (find test others) (fails s) ∙ none_found test fails others

-- where a sign ends, no sign of two bytes stands
pub double_none : (first : ℕ) (behind : List ℕ) → EndsSign behind → double_at first behind ≡ None
double_none first [] ends = refl
double_none first (second ∷ rest) ends =
    let parts = or_parts (eqb second 61) (eqb second 124) ends in
    none_found (λ (s : Sign). bytes_eq (first ∷ second ∷ []) (sign_bytes s)) (λ s. other_sign s first second parts.0 parts.1) signs

found_single : (first : ℕ) (behind : List ℕ) (sign : Sign) → EndsSign behind
    → longer_sign (double_at first behind) (Some sign) ≡ Some (front_with (kind.Sign sign) 1)
found_single first behind sign ends = ap (λ (o : Option Sign). longer_sign o (Some sign)) (double_none first behind ends)

-- a sign is found, where nothing makes it longer
pub sign_found : (s : Sign) (behind : List ℕ) → EndsSign behind
    → Finds (sign_bytes s ++ behind) (kind.Sign s) (length (sign_bytes s))
sign_found Sign.Plus behind ends = found_single 43 behind Sign.Plus ends
sign_found Sign.Minus behind ends = found_single 45 behind Sign.Minus ends
sign_found Sign.Times behind ends = found_single 42 behind Sign.Times ends
sign_found Sign.Divide behind ends = found_single 47 behind Sign.Divide ends
sign_found Sign.Join behind ends = refl
sign_found Sign.Equal behind ends = found_single 61 behind Sign.Equal ends
sign_found Sign.NotEqual behind ends = refl
sign_found Sign.Less behind ends = found_single 60 behind Sign.Less ends
sign_found Sign.LessEqual behind ends = refl
sign_found Sign.Greater behind ends = found_single 62 behind Sign.Greater ends
sign_found Sign.GreaterEqual behind ends = refl
sign_found Sign.Ampersand behind ends = found_single 38 behind Sign.Ampersand ends
sign_found Sign.Bar behind ends = found_single 124 behind Sign.Bar ends
sign_found Sign.Caret behind ends = found_single 94 behind Sign.Caret ends
sign_found Sign.OpenParenthesis behind ends = found_single 40 behind Sign.OpenParenthesis ends
sign_found Sign.CloseParenthesis behind ends = found_single 41 behind Sign.CloseParenthesis ends
sign_found Sign.Comma behind ends = found_single 44 behind Sign.Comma ends

-- where a token stands, something at least as long is found
pub token_covered : (token : Token) (bytes behind : List ℕ) → IsToken token bytes behind
    → Covers (kept_kind token) (length bytes) (front_of (bytes ++ behind))
token_covered (Token.name n) bytes behind is =
    subst (λ (b : List ℕ). Covers kind.Name (length b) (front_of (b ++ behind))) (sym is.0)
    (covers_found (n ++ behind) kind.Name (length n) (name_found n behind is.1 (not-true _ is.2)))
token_covered (Token.keyword word) bytes behind is =
    subst (λ (b : List ℕ). Covers kind.Keyword (length b) (front_of (b ++ behind))) (sym is.0)
    (covers_found (word ++ behind) kind.Keyword (length word) (keyword_found word behind is.1 (not-true _ is.2)))
token_covered (Token.number n) bytes behind is =
    subst (λ (m : ℕ). Covers (kind.Number (min m greatest_kept)) (length bytes) (front_of (bytes ++ behind))) is.1 (number_covered bytes behind is.0)
token_covered (Token.text value) bytes behind is =
    subst (λ (b : List ℕ). Covers kind.Text (length b) (front_of (b ++ behind))) (sym is.0) (text_covered value behind is.1 (not-true _ is.2))
token_covered (Token.bit bit) bytes behind is =
    subst (λ (b : List ℕ). Covers (kind.Bit bit) (length b) (front_of (b ++ behind))) (sym is.0)
    (covers_found (bit_bytes bit ++ behind) (kind.Bit bit) (length (bit_bytes bit)) (bit_found bit behind (not-true _ is.1)))
token_covered (Token.sign s) bytes behind is =
    subst (λ (b : List ℕ). Covers (kind.Sign s) (length b) (front_of (b ++ behind))) (sym is) (sign_covered s behind)
