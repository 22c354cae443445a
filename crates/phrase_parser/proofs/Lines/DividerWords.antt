-- The dividers of lines begin with a byte and go on with words that no part has there.
use Rattle.std.proofs.Common.{◌≡◌, refl, ℕ, ◌<◌, true, false, not, List, [], ◌∷◌, ◌++◌, length, drop, sym, ap, ◌∙◌, arith}
use Rattle.std.specs.Prelude.{nat_le}
use Rattle.std.specs.List.{list_all}
use Rattle.std.proofs.lemmas.Bool.{and_parts, false≢true, false_from_ne_true}
use Rattle.std.proofs.lemmas.Bool.Decides.{nat_tests, Decides-eqb}
use Rattle.std.proofs.lemmas.Slice.Eq.{starts_is}
use Rattle.plcs_base.specs.Byte.{is_letter, is_digit, is_name_byte}
use Rattle.plcs_base.specs.Name.{is_word, is_keyword, longest_name, IsName}
use Rattle.plcs_grammar.specs.declared.sign.Sign.{Sign}
use Rattle.plcs_grammar.specs.Sign.{sign_bytes}
use Rattle.plcs_grammar.specs.Token.{begins_with}
use Rattle.phrase_parser.proofs.Tokens.Words.{name_word}
use Rattle.phrase_parser.proofs.Lines.DividedTexts.{begins_here, is_solid, IsApart}
use Rattle.phrase_parser.proofs.Lines.TextFronts.{HoldsAtTokens}
use Rattle.phrase_parser.proofs.Lines.DividedExprs.{Fresh}

-- a blank is no byte of a name
blank_not_in_name : (byte : ℕ) → is_name_byte byte ≡ true → is_solid 32 byte ≡ true
blank_not_in_name byte h = grind (arith, nat_tests)

-- a colon is no byte of a name
colon_not_in_name : (byte : ℕ) → is_name_byte byte ≡ true → is_solid 58 byte ≡ true
colon_not_in_name byte h = grind (arith, nat_tests)

-- no sign has a blank
blank_not_in_sign : (sign : Sign) → list_all (is_solid 32) (sign_bytes sign) ≡ true
blank_not_in_sign Sign.Plus = refl
blank_not_in_sign _ = refl

-- no sign has a colon
colon_not_in_sign : (sign : Sign) → list_all (is_solid 58) (sign_bytes sign) ≡ true
colon_not_in_sign Sign.Plus = refl
colon_not_in_sign _ = refl

-- what begins with a blank begins in no token outside of quotes
pub blank_apart : IsApart 32
blank_apart = record { names = blank_not_in_name; quotes = refl; signs = blank_not_in_sign }

-- what begins with a colon begins in no token outside of quotes
pub colon_apart : IsApart 58
colon_apart = record { names = colon_not_in_name; quotes = refl; signs = colon_not_in_sign }

-- a text that begins with another is that one and more
pub begins_is : (divider x : List ℕ) → begins_here divider x ≡ true → x ≡ divider ++ drop (length divider) x
begins_is divider x h = (starts_is Decides-eqb x divider (begins_here divider x) refl).0 h

-- a name is no keyword
name_no_keyword : (name : List ℕ) → IsName name → is_keyword name ≡ true → ⊥
name_no_keyword name named h =
    let parts = and_parts (nat_le (length name) longest_name) (not (is_keyword name)) (and_parts (is_word name) _ named).1 in
    let no = parts.1 in
    false≢true (sym (ap not h) ∙ no)

-- each byte behind a name's first may follow in a name
name_bytes : (first : ℕ) (rest : List ℕ) → IsName (first ∷ rest) → list_all is_name_byte rest ≡ true
name_bytes first rest named = (and_parts (is_letter first) (list_all is_name_byte rest) (name_word (first ∷ rest) named)).1

-- a name before which the keyword of two letters and a blank would stand is that keyword
no_keyword_begins : (a b : ℕ) (name behind z : List ℕ) → is_name_byte b ≡ true → is_keyword (a ∷ b ∷ []) ≡ true → IsName name
    → begins_with is_name_byte behind ≡ false → name ++ behind ≡ a ∷ b ∷ 32 ∷ z → ⊥
no_keyword_begins a b [] behind z follows keyword named ends e = false≢true (name_word [] named)
no_keyword_begins a b (c ∷ []) [] z follows keyword named ends e = absurd (cc)
no_keyword_begins a b (c ∷ []) (d ∷ behind) z follows keyword named ends e =
    let same : d ≡ b = cc in false≢true (sym ends ∙ ap is_name_byte same ∙ follows)
no_keyword_begins a b (c ∷ d ∷ []) behind z follows keyword named ends e =
    let same : c ∷ d ∷ [] ≡ a ∷ b ∷ [] = cc in name_no_keyword (c ∷ d ∷ []) named (ap is_keyword same ∙ keyword)
no_keyword_begins a b (c ∷ d ∷ f ∷ name) behind z follows keyword named ends e =
    let same : f ≡ 32 = cc in
    let bytes = and_parts (is_name_byte d) (list_all is_name_byte (f ∷ name)) (name_bytes c (d ∷ f ∷ name) named) in
    let byte = and_parts (is_name_byte f) (list_all is_name_byte name) bytes.1 in
    false≢true (ap is_name_byte (sym same) ∙ byte.0)

keyword_apart : (a b : ℕ) (name behind : List ℕ) → is_name_byte b ≡ true → is_keyword (a ∷ b ∷ []) ≡ true → IsName name
    → begins_with is_name_byte behind ≡ false → begins_here (a ∷ b ∷ 32 ∷ []) (name ++ behind) ≡ false
keyword_apart a b name behind follows keyword named ends =
    false_from_ne_true (begins_here (a ∷ b ∷ 32 ∷ []) (name ++ behind))
    (λ h. no_keyword_begins a b name behind _ follows keyword named ends (begins_is (a ∷ b ∷ 32 ∷ []) (name ++ behind) h))

to_is_keyword : is_keyword (84 ∷ 79 ∷ []) ≡ true
unfolding is_keyword
to_is_keyword = refl

by_is_keyword : is_keyword (66 ∷ 89 ∷ []) ≡ true
unfolding is_keyword
by_is_keyword = refl

-- a text doesn't begin with another whose first byte is another one
other_first : (first byte : ℕ) (rest y : List ℕ) → (first ≡ byte → ⊥) → begins_here (first ∷ rest) (byte ∷ y) ≡ false
other_first first byte rest y h =
    false_from_ne_true (begins_here (first ∷ rest) (byte ∷ y))
    (λ e. let same = begins_is (first ∷ rest) (byte ∷ y) e in h (let g : first ≡ byte = cc in g))

digit_no_letter : (digit : ℕ) → is_digit digit ≡ true → digit < 65
digit_no_letter digit h = grind (arith, nat_tests)

to_before_sign : (sign : Sign) (y : List ℕ) → begins_here (84 ∷ 79 ∷ 32 ∷ []) (sign_bytes sign ++ y) ≡ false
to_before_sign Sign.Plus y = refl
to_before_sign _ y = refl

by_before_sign : (sign : Sign) (y : List ℕ) → begins_here (66 ∷ 89 ∷ 32 ∷ []) (sign_bytes sign ++ y) ≡ false
by_before_sign Sign.Plus y = refl
by_before_sign _ y = refl

-- ` TO ` begins at no blank in an expression
pub to_apart : HoldsAtTokens (Fresh (32 ∷ 84 ∷ 79 ∷ 32 ∷ []))
to_apart = record {
  at_name = λ name behind named ends. keyword_apart 84 79 name behind refl to_is_keyword named ends;
  at_digit = λ digit y h. other_first 84 digit (79 ∷ 32 ∷ []) y (λ e. omega (arith, e, digit_no_letter digit h));
  at_quote = λ y. refl;
  at_sign = to_before_sign;
}

-- ` BY ` begins at no blank in an expression
pub by_apart : HoldsAtTokens (Fresh (32 ∷ 66 ∷ 89 ∷ 32 ∷ []))
by_apart = record {
  at_name = λ name behind named ends. keyword_apart 66 89 name behind refl by_is_keyword named ends;
  at_digit = λ digit y h. other_first 66 digit (89 ∷ 32 ∷ []) y (λ e. omega (arith, e, digit_no_letter digit h));
  at_quote = λ y. refl;
  at_sign = by_before_sign;
}

letter_no_parenthesis : (byte : ℕ) → is_letter byte ≡ true → 41 ≡ byte → ⊥
letter_no_parenthesis byte h e = false≢true (ap is_letter e ∙ h)

-- no name begins with a parenthesis
pub parenthesis_before_name : (rest name behind : List ℕ) → IsName name → begins_here (41 ∷ rest) (name ++ behind) ≡ false
parenthesis_before_name rest [] behind named = absurd (false≢true (name_word [] named))
parenthesis_before_name rest (byte ∷ name) behind named =
    other_first 41 byte rest (name ++ behind)
    (letter_no_parenthesis byte (and_parts (is_letter byte) (list_all is_name_byte name) (name_word (byte ∷ name) named)).0)
