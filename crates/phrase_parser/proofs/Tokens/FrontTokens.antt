-- What the model of the code finds at the front of a text is a token there.
use Rattle.std.proofs.Common.{◌≡◌, ℕ, ◌≤◌, Bool, true, false, not, ◌&&◌, cond, eqb, List, [], ◌∷◌, ◌++◌, length, take, drop, refl, sym, ap, ◌∙◌, subst, inl, inr, arith, Option, Some, None}
use Rattle.std.specs.Prelude.{nat_le, bytes_eq}
use Rattle.std.specs.List.{prefix_len}
use Rattle.std.proofs.lemmas.Bool.{and_parts, cond-true, cond-false, cond_both, eqb-true, cases_Bool, not-true, not_from_false}
use Rattle.std.proofs.lemmas.Option.{none-some, same_Some, cond_some}
use Rattle.std.proofs.lemmas.List.{take-append-drop}
use Rattle.std.proofs.lemmas.List.Folds.{length-prefix_len}
use Rattle.std.proofs.lemmas.Slice.Eq.{bytes_eq-Decides}
use Rattle.plcs_base.specs.Byte.{is_letter, is_digit, is_name_byte}
use Rattle.plcs_base.specs.Name.{is_word, is_name, longest_name}
use Rattle.plcs_grammar.specs.declared.sign.Sign.{Sign}
use Rattle.plcs_grammar.specs.Sign.{signs, sign_bytes, sign_of}
use Rattle.plcs_grammar.specs.Token.{Token, IsToken, begins_with, is_quote, numeral_value, quoted, bit_bytes}
use Rattle.phrase_parser.specs.declared.front.Front.{Front}
use Rattle.phrase_parser.specs.declared.token.TokenKind.TheVariants as kind
use Rattle.phrase_parser.specs.Private.PlacedToken.{kept_kind}
use Rattle.phrase_parser.specs.Private.Front.{front_of, word_front, number_front, constant_of, constant_front, bit_constant, bit_value, constant_end, longer_sign, sign_kept, sign_front, double_at, ends_word}
use Rattle.phrase_parser.proofs.FoundElements.{found_passes}
use Rattle.phrase_parser.proofs.Tokens.ByteRuns.{run_all, run_ends, run_begins}
use Rattle.phrase_parser.proofs.Tokens.QuotedTexts.{constant_end_tells, quoted_append, length_quoted}
use Rattle.phrase_parser.proofs.Tokens.Words.{run_is_word, word_no_name}

-- a token begins the text, of which the front keeps the kind and the length
pub record Tells (x : List ℕ) (front : Front) : Type 0 where
  pub token : Token
  pub bytes : List ℕ
  pub behind : List ℕ
  pub whole : x ≡ bytes ++ behind
  pub is_token : IsToken token bytes behind
  pub same_kind : kept_kind token ≡ front.kind
  pub same_length : length bytes ≡ front.length

-- ---- words

word_tells : (w behind : List ℕ) (front : Front) → is_word w ≡ true → nat_le (length w) longest_name ≡ true
    → begins_with is_name_byte behind ≡ false
    → front.kind ≡ cond (is_name w) kind.Name kind.Keyword → front.length ≡ length w → Tells (w ++ behind) front
word_tells w behind front word short ends kind_is length_is =
    let closed : not (begins_with is_name_byte behind) ≡ true = not_from_false _ ends in
    elim (cases_Bool (is_name w)) [
      | inl named ↦ record {
        token = Token.name w;
        bytes = w;
        behind = behind;
        whole = refl;
        is_token = (refl, named, closed);
        same_kind = sym (kind_is ∙ cond-true (is_name w) kind.Name kind.Keyword named);
        same_length = sym length_is;
      }
      | inr other ↦ record {
        token = Token.keyword w;
        bytes = w;
        behind = behind;
        whole = refl;
        is_token = (refl, word_no_name w word short other, closed);
        same_kind = sym (kind_is ∙ cond-false (is_name w) kind.Name kind.Keyword other);
        same_length = sym length_is;
      }
    ]

word_front_tells : (first : ℕ) (rest : List ℕ) (front : Front) → is_letter first ≡ true → word_front (first ∷ rest) ≡ Some front
    → Tells (first ∷ rest) front
word_front_tells first rest front letter h =
    let x = first ∷ rest in
    let n = prefix_len is_name_byte x in
    let w = take n x in
    let found = cond_some (nat_le n longest_name) (record { kind = cond (is_name w) kind.Name kind.Keyword; length = n }) front h in
    let size : length w ≡ n = length-prefix_len is_name_byte x in
    let word : is_word w ≡ true = run_is_word x letter in
    subst (λ (y : List ℕ). Tells y front) (take-append-drop n x)
    (word_tells w (drop n x) front word (ap (λ (k : ℕ). nat_le k longest_name) size ∙ found.0) (run_ends is_name_byte x)
    (sym (ap (λ (f : Front). f.kind) found.1)) (sym (ap (λ (f : Front). f.length) found.1) ∙ sym size))

-- ---- numbers

number_front_tells : (first : ℕ) (rest : List ℕ) (front : Front) → is_digit first ≡ true → number_front (first ∷ rest) ≡ front
    → Tells (first ∷ rest) front
number_front_tells first rest front digit h =
    let x = first ∷ rest in
    let n = prefix_len is_digit x in
    let size : length (take n x) ≡ n = length-prefix_len is_digit x in
    let some : 1 ≤ n = run_begins is_digit first rest digit in
    record {
      token = Token.number (numeral_value (take n x));
      bytes = take n x;
      behind = drop n x;
      whole = sym (take-append-drop n x);
      is_token = ((omega (arith, size, some), run_all is_digit x), refl);
      same_kind = ap (λ (f : Front). f.kind) h;
      same_length = size ∙ ap (λ (f : Front). f.length) h;
    }

-- ---- constants

-- the byte of the digit of a bit
abbrev bit_byte : Bool → ℕ
bit_byte false = 48
bit_byte true = 49

bit_bytes_append : (bit : Bool) (behind : List ℕ) → 39 ∷ bit_byte bit ∷ 39 ∷ 66 ∷ behind ≡ bit_bytes bit ++ behind
bit_bytes_append false behind = refl
bit_bytes_append true behind = refl

length_bit : (bit : Bool) → length (bit_bytes bit) ≡ 4
length_bit false = refl
length_bit true = refl

-- a bit constant begins the text
pub record BeginsBit (x : List ℕ) (bit : Bool) : Type 0 where
  pub behind : List ℕ
  pub whole : x ≡ bit_bytes bit ++ behind
  pub ends : begins_with is_name_byte behind ≡ false

cond_option : {A : Type 0} (test : Bool) (o : Option A) (a : A) → cond test o None ≡ Some a → (test ≡ true) × (o ≡ Some a)
cond_option true o a h = (refl, h)
cond_option false o a h = absurd (none-some a h)

bit_value_tells : (digit : ℕ) (bit : Bool) → bit_value digit ≡ Some bit → digit ≡ bit_byte bit
bit_value_tells digit bit h =
    cond_both (eqb digit 48) (Some false) (cond (eqb digit 49) (Some true) None) (λ (o : Option Bool). o ≡ Some bit → digit ≡ bit_byte bit)
    (λ zero e. eqb-true digit 48 zero ∙ ap bit_byte (same_Some false bit e))
    (λ _ e. let one = cond_option (eqb digit 49) (Some true) bit e in eqb-true digit 49 one.0 ∙ ap bit_byte (same_Some true bit one.1))
    h

four_bytes : (a b c d k : ℕ) (behind : List ℕ) → a ≡ 39 → b ≡ k → c ≡ 39 → d ≡ 66
    → a ∷ b ∷ c ∷ d ∷ behind ≡ 39 ∷ k ∷ 39 ∷ 66 ∷ behind
four_bytes a b c d k behind p q r s = cc

-- what is read as a bit constant is one
pub bit_tells : (x : List ℕ) (bit : Bool) → bit_constant x ≡ Some bit → BeginsBit x bit
bit_tells [] bit h = absurd (none-some bit h)
bit_tells (a ∷ []) bit h = absurd (none-some bit h)
bit_tells (a ∷ digit ∷ []) bit h = absurd (none-some bit h)
bit_tells (a ∷ digit ∷ c ∷ []) bit h = absurd (none-some bit h)
bit_tells (a ∷ digit ∷ c ∷ d ∷ behind) bit h =
    let parts = cond_option (eqb a 39 && (eqb c 39 && (eqb d 66 && ends_word behind))) (bit_value digit) bit h in
    let one = and_parts (eqb a 39) (eqb c 39 && (eqb d 66 && ends_word behind)) parts.0 in
    let two = and_parts (eqb c 39) (eqb d 66 && ends_word behind) one.1 in
    let three = and_parts (eqb d 66) (ends_word behind) two.1 in
    record {
      behind = behind;
      whole = four_bytes a digit c d (bit_byte bit) behind (eqb-true a 39 one.0) (bit_value_tells digit bit parts.1)
          (eqb-true c 39 two.0) (eqb-true d 66 three.0) ∙ bit_bytes_append bit behind;
      ends = not-true (begins_with is_name_byte behind) three.1;
    }

-- a bit constant without its `B` is a character constant of three bytes
pub bit_read : (bit : Bool) (behind : List ℕ) → constant_end 1 0 (drop 1 (bit_bytes bit ++ behind)) ≡ Some 3
bit_read false behind = refl
bit_read true behind = refl

constant_tells : (rest : List ℕ) (front : Front) (bit : Option Bool) (end : Option ℕ) → bit_constant (39 ∷ rest) ≡ bit
    → constant_end 1 0 rest ≡ end → constant_of bit end ≡ Some front → Tells (39 ∷ rest) front
constant_tells rest front (Some bit) end is_bit read h =
    let begins = bit_tells (39 ∷ rest) bit is_bit in
    let found : record { kind = kind.Bit bit; length = 4 } ≡ front = same_Some (record { kind = kind.Bit bit; length = 4 }) front h in
    record {
      token = Token.bit bit;
      bytes = bit_bytes bit;
      behind = begins.behind;
      whole = begins.whole;
      is_token = (refl, not_from_false _ begins.ends);
      same_kind = ap (λ (f : Front). f.kind) found;
      same_length = length_bit bit ∙ ap (λ (f : Front). f.length) found;
    }
constant_tells rest front None (Some end) is_bit read h =
    let closes = constant_end_tells 1 0 rest end read in
    let found : record { kind = kind.Text; length = end } ≡ front = same_Some (record { kind = kind.Text; length = end }) front h in
    record {
      token = Token.text closes.value;
      bytes = quoted closes.value;
      behind = closes.behind;
      whole = ap (λ (y : List ℕ). 39 ∷ y) closes.whole ∙ sym (quoted_append closes.value closes.behind);
      is_token = (refl, (omega (arith, closes.short), closes.printable), not_from_false _ closes.closed);
      same_kind = ap (λ (f : Front). f.kind) found;
      same_length = omega (arith, length_quoted closes.value, closes.end_is, ap (λ (f : Front). f.length) found);
    }
constant_tells rest front None None is_bit read h = absurd (none-some front h)

-- ---- signs

-- the bytes are those of the sign that they are found as
found_spelt : (bytes : List ℕ) (sign : Sign) → sign_of bytes ≡ Some sign → bytes ≡ sign_bytes sign
found_spelt bytes sign h =
    (bytes_eq-Decides bytes (sign_bytes sign)).0 (found_passes (λ (s : Sign). bytes_eq bytes (sign_bytes s)) signs sign h)

tells_sign : (bytes behind : List ℕ) (sign : Sign) (n : ℕ) (front : Front) → bytes ≡ sign_bytes sign → length bytes ≡ n
    → sign_kept sign n ≡ front → Tells (bytes ++ behind) front
tells_sign bytes behind sign n front spelt size h = record {
  token = Token.sign sign;
  bytes = bytes;
  behind = behind;
  whole = refl;
  is_token = spelt;
  same_kind = ap (λ (f : Front). f.kind) h;
  same_length = size ∙ ap (λ (f : Front). f.length) h;
}

sign_tells : (first : ℕ) (rest : List ℕ) (front : Front) (double single : Option Sign) → double_at first rest ≡ double
    → sign_of (first ∷ []) ≡ single → longer_sign double single ≡ Some front → Tells (first ∷ rest) front
sign_tells first [] front (Some s) single is_double is_single h = absurd (none-some s is_double)
sign_tells first (second ∷ rest) front (Some s) single is_double is_single h =
    tells_sign (first ∷ second ∷ []) rest s 2 front (found_spelt (first ∷ second ∷ []) s is_double) refl (same_Some (sign_kept s 2) front h)
sign_tells first rest front None (Some s) is_double is_single h =
    tells_sign (first ∷ []) rest s 1 front (found_spelt (first ∷ []) s is_single) refl (same_Some (sign_kept s 1) front h)
sign_tells first rest front None None is_double is_single h = absurd (none-some front h)

-- the front that is found tells a token that begins the text
pub found_tells : (x : List ℕ) (front : Front) → front_of x ≡ Some front → Tells x front
found_tells [] front h = absurd (none-some front h)
found_tells (first ∷ rest) front h =
    cond_both (is_quote first) (constant_front (first ∷ rest))
    (cond (is_letter first) (word_front (first ∷ rest)) (cond (is_digit first) (Some (number_front (first ∷ rest))) (sign_front first rest)))
    (λ (o : Option Front). o ≡ Some front → Tells (first ∷ rest) front)
    (λ quote e.
    let same : 39 ≡ first = sym (eqb-true first 39 quote) in
    subst (λ (b : ℕ). Tells (b ∷ rest) front) same
    (constant_tells rest front (bit_constant (39 ∷ rest)) (constant_end 1 0 rest) refl refl
    (subst (λ (b : ℕ). constant_front (b ∷ rest) ≡ Some front) (sym same) e)))
    (λ _. cond_both (is_letter first) (word_front (first ∷ rest)) (cond (is_digit first) (Some (number_front (first ∷ rest))) (sign_front first rest))
    (λ (o : Option Front). o ≡ Some front → Tells (first ∷ rest) front)
    (λ letter e. word_front_tells first rest front letter e)
    (λ _. cond_both (is_digit first) (Some (number_front (first ∷ rest))) (sign_front first rest)
    (λ (o : Option Front). o ≡ Some front → Tells (first ∷ rest) front)
    (λ digit e. number_front_tells first rest front digit (same_Some (number_front (first ∷ rest)) front e))
    (λ _ e. sign_tells first rest front (double_at first rest) (sign_of (first ∷ [])) refl refl e)))
    h
