-- Texts in which a divider begins nowhere outside of quotes, whatever stands behind them.
use Rattle.std.proofs.Common.{◌≡◌, refl, ℕ, ◌<◌, ◌^◌, Bool, true, false, ◌&&◌, not, List, [], ◌∷◌, ◌++◌, Option, Some, None, sym, ap, subst, ◌∙◌, append_assoc, arith}
use Rattle.std.specs.Prelude.{nat_eq, decimal}
use Rattle.std.specs.List.{starts_with, list_all}
use Rattle.std.proofs.lemmas.Bool.{and_parts, and_from, not-true, cond-false, cond_both}
use Rattle.std.proofs.lemmas.Bool.Decides.{nat_tests}
use Rattle.plcs_base.specs.Byte.{is_digit, is_name_byte}
use Rattle.plcs_base.specs.Name.{IsName}
use Rattle.plcs_grammar.specs.Token.{is_quote, quoted, with_quotes_doubled, doubled, bit_bytes}
use Rattle.plcs_grammar.specs.declared.sign.Sign.{Sign}
use Rattle.plcs_grammar.specs.Sign.{sign_bytes}
use Rattle.phrase_parser.proofs.Tokens.Numerals.{decimal_numeral}
use Rattle.phrase_parser.proofs.Tokens.Words.{name_word, word_bytes}
use Rattle.phrase_parser.specs.LineParts.{with_front, is_quoted_behind, cut_from}

-- whether the text begins with the divider
abbrev pub begins_here : List ℕ → List ℕ → Bool
begins_here divider x = starts_with nat_eq x divider

-- before y the divider begins nowhere in x outside of quotes, where x begins and ends inside of quotes or outside
abbrev pub Passes : List ℕ → Bool → List ℕ → Bool → List ℕ → Type 0
Passes divider inside x still y = cut_from inside divider (x ++ y) ≡ with_front x (cut_from still divider y)

-- before y the divider begins nowhere in x outside of quotes, and x begins and ends outside of quotes
abbrev pub Clear : List ℕ → List ℕ → List ℕ → Type 0
Clear divider x y = Passes divider false x false y

front_twice : (x z : List ℕ) (o : Option (List ℕ × List ℕ)) → with_front x (with_front z o) ≡ with_front (x ++ z) o
front_twice x z None = refl
front_twice x z (Some parts) = ap (λ (front : List ℕ). Some (front, parts.1)) (sym (append_assoc x z parts.0))

front_none : (o : Option (List ℕ × List ℕ)) → o ≡ with_front [] o
front_none None = refl
front_none (Some parts) = refl

-- the divider begins nowhere in the empty text
pub passes_nothing : (divider : List ℕ) (inside : Bool) (y : List ℕ) → Passes divider inside [] inside y
passes_nothing divider inside y = front_none (cut_from inside divider y)

-- the divider begins nowhere in one text and then another, where it begins in neither
pub passes_append : (divider : List ℕ) (a b c : Bool) (x z y : List ℕ) → Passes divider a x b (z ++ y) → Passes divider b z c y
    → Passes divider a (x ++ z) c y
passes_append divider a b c x z y h k =
    ap (cut_from a divider) (append_assoc x z y) ∙ h ∙ ap (with_front x) k ∙ front_twice x z (cut_from c divider y)

-- the divider begins nowhere in a text of one byte, where it doesn't begin at that
pub passes_byte : (divider : List ℕ) (inside : Bool) (byte : ℕ) (y : List ℕ)
    → not inside && begins_here divider (byte ∷ y) ≡ false → Passes divider inside (byte ∷ []) (is_quoted_behind inside byte) y
passes_byte divider inside byte y h = cond-false (not inside && begins_here divider (byte ∷ y)) _ _ h

-- a digit may follow in a name
digit_is_name_byte : (byte : ℕ) → is_digit byte ≡ true → is_name_byte byte ≡ true
digit_is_name_byte byte h = grind (arith, nat_tests)

-- a byte that is neither a quote nor the first of the divider
abbrev pub is_solid : ℕ → ℕ → Bool
is_solid first byte = not (nat_eq first byte) && not (is_quote byte)

-- what holds of each byte that passes a test holds of a text of such bytes
all_solid : (first : ℕ) (test : ℕ → Bool) → ((byte : ℕ) → test byte ≡ true → is_solid first byte ≡ true)
    → (x : List ℕ) → list_all test x ≡ true → list_all (is_solid first) x ≡ true
all_solid first test each [] h = refl
all_solid first test each (byte ∷ x) h =
    let parts = and_parts (test byte) (list_all test x) h in
    and_from (is_solid first byte) (list_all (is_solid first) x) (each byte parts.0) (all_solid first test each x parts.1)

-- a divider that begins with this byte doesn't begin in a name, a number or a sign, or at a quote
pub record IsApart (first : ℕ) : Type 0 where
  pub names : (byte : ℕ) → is_name_byte byte ≡ true → is_solid first byte ≡ true
  pub quotes : nat_eq first 39 ≡ false
  pub signs : (sign : Sign) → list_all (is_solid first) (sign_bytes sign) ≡ true

module _ (first : ℕ) (rest : List ℕ) where
  -- the divider doesn't begin at a byte other than its first
  other_byte : (byte : ℕ) (y : List ℕ) → nat_eq first byte ≡ false → begins_here (first ∷ rest) (byte ∷ y) ≡ false
  other_byte byte y h = ap (λ (b : Bool). b && begins_here rest y) h

  -- the divider begins nowhere in one byte that a test tells from its first
  solid_byte : (byte : ℕ) (y : List ℕ) → is_solid first byte ≡ true → Clear (first ∷ rest) (byte ∷ []) y
  solid_byte byte y h =
      let parts = and_parts (not (nat_eq first byte)) (not (is_quote byte)) h in
      subst (λ (still : Bool). Passes (first ∷ rest) false (byte ∷ []) still y)
      (cond-false (is_quote byte) true false (not-true (is_quote byte) parts.1))
      (passes_byte (first ∷ rest) false byte y (other_byte byte y (not-true (nat_eq first byte) parts.0)))

  -- the divider begins nowhere in a text of bytes that a test tells from its first
  pub clear_solid : (x y : List ℕ) → list_all (is_solid first) x ≡ true → Clear (first ∷ rest) x y
  clear_solid [] y h = passes_nothing (first ∷ rest) false y
  clear_solid (byte ∷ x) y h =
      let parts = and_parts (is_solid first byte) (list_all (is_solid first) x) h in
      passes_append (first ∷ rest) false false false (byte ∷ []) x y (solid_byte byte (x ++ y) parts.0) (clear_solid x y parts.1)

  -- a blank at which the divider doesn't begin
  pub clear_blank : (y : List ℕ) → begins_here (first ∷ rest) (32 ∷ y) ≡ false → Clear (first ∷ rest) (32 ∷ []) y
  clear_blank y h = passes_byte (first ∷ rest) false 32 y h

  -- a byte inside of quotes that is none
  inside_byte : (byte : ℕ) (y : List ℕ) → is_quote byte ≡ false → Passes (first ∷ rest) true (byte ∷ []) true y
  inside_byte byte y h =
      subst (λ (still : Bool). Passes (first ∷ rest) true (byte ∷ []) still y) (cond-false (is_quote byte) false true h)
      (passes_byte (first ∷ rest) true byte y refl)

  -- the first of two quotes inside of quotes, or the last quote
  closing_quote : (y : List ℕ) → Passes (first ∷ rest) true (39 ∷ []) false y
  closing_quote y = passes_byte (first ∷ rest) true 39 y refl

  module _ (apart : IsApart first) where
    -- the divider doesn't begin at a quote outside of quotes
    opening_quote : (y : List ℕ) → Passes (first ∷ rest) false (39 ∷ []) true y
    opening_quote y = passes_byte (first ∷ rest) false 39 y (other_byte 39 y apart.quotes)

    -- the divider begins nowhere in a byte of a value, as it is written between quotes
    inside_doubled : (byte : ℕ) (y : List ℕ) → Passes (first ∷ rest) true (doubled byte) true y
    inside_doubled byte y =
        cond_both (is_quote byte) (39 ∷ 39 ∷ []) (byte ∷ []) (λ (x : List ℕ). Passes (first ∷ rest) true x true y)
        (λ is. passes_append (first ∷ rest) true false true (39 ∷ []) (39 ∷ []) y (closing_quote (39 ∷ y)) (opening_quote y))
        (λ not. inside_byte byte y not)

    -- the divider begins nowhere in a value, as it is written between quotes
    inside_value : (value y : List ℕ) → Passes (first ∷ rest) true (with_quotes_doubled value) true y
    inside_value [] y = passes_nothing (first ∷ rest) true y
    inside_value (byte ∷ value) y =
        passes_append (first ∷ rest) true true true (doubled byte) (with_quotes_doubled value) y
        (inside_doubled byte (with_quotes_doubled value ++ y)) (inside_value value y)

    -- the divider begins nowhere in a character constant
    pub clear_text : (value y : List ℕ) → Clear (first ∷ rest) (quoted value) y
    clear_text value y =
        passes_append (first ∷ rest) false true false (39 ∷ []) (with_quotes_doubled value ++ (39 ∷ [])) y
        (opening_quote ((with_quotes_doubled value ++ (39 ∷ [])) ++ y))
        (passes_append (first ∷ rest) true true false (with_quotes_doubled value) (39 ∷ []) y (inside_value value (39 ∷ y)) (closing_quote y))

    -- the divider doesn't begin at a byte of a name
    clear_name_byte : (byte : ℕ) (y : List ℕ) → is_name_byte byte ≡ true → Clear (first ∷ rest) (byte ∷ []) y
    clear_name_byte byte y h = solid_byte byte y (apart.names byte h)

    -- the divider begins nowhere in a bit constant
    pub clear_bit : (bit : Bool) (y : List ℕ) → Clear (first ∷ rest) (bit_bytes bit) y
    clear_bit false y =
        passes_append (first ∷ rest) false false false (quoted (48 ∷ [])) (66 ∷ []) y (clear_text (48 ∷ []) (66 ∷ y)) (clear_name_byte 66 y refl)
    clear_bit true y =
        passes_append (first ∷ rest) false false false (quoted (49 ∷ [])) (66 ∷ []) y (clear_text (49 ∷ []) (66 ∷ y)) (clear_name_byte 66 y refl)

    -- the divider begins nowhere in a name
    pub clear_name : (name y : List ℕ) → IsName name → Clear (first ∷ rest) name y
    clear_name name y named =
        clear_solid name y (all_solid first is_name_byte apart.names name (word_bytes name (name_word name named)))

    -- the divider begins nowhere in a number in decimal
    pub clear_number : (n : ℕ) (y : List ℕ) → n < 2 ^ 64 → Clear (first ∷ rest) (decimal n) y
    clear_number n y small =
        clear_solid (decimal n) y
        (all_solid first is_digit (λ byte h. apart.names byte (digit_is_name_byte byte h)) (decimal n) (decimal_numeral n small).0.1)

    -- the divider begins nowhere in a sign
    pub clear_sign : (sign : Sign) (y : List ℕ) → Clear (first ∷ rest) (sign_bytes sign) y
    clear_sign sign y = clear_solid (sign_bytes sign) y (apart.signs sign)
