-- What a word looks like to clap.
use Rattle.std.proofs.Common.{◌≡◌, ℕ, ◌||◌, Bool, true, false, [], ◌∷◌, Option, Some, None, refl, sym, ap, ◌∙◌, subst, codes}
use Rattle.std.specs.Prelude.{◌&&◌, ◌==◌, is_some, option_and_then, slice_get, if◌then◌else◌}
use Rattle.std.specs.Char.{encode_utf8}
use Rattle.std.specs.Str.{IsUtf8, bytes_eq, chars, encode_utf8_all}
use Rattle.std.proofs.lemmas.Bool.Decides.{Decides-eqb}
use Rattle.std.proofs.lemmas.Slice.Eq.{bytes_eq-Decides}
use Rattle.std.proofs.lemmas.Str.{chars_from_encodes}
use Rattle.clap.specs.Lexer.{long_of, long_of_rest, short_of, short_of_rest, strip_byte}
use Rattle.clap.specs.Walk.{Text}
use Rattle.synth_top.specs.Given.{has_two_hyphens, is_hyphened, name_in_word, value_in_word}

-- a word, by whether it is `--`, by the name and the value behind two hyphens, and by what stands behind one
pub record Looks (word : Text) (ending : Bool) (long : Option (Text × Option Text)) (short : Option Text) : Type 0 where
  pub ending_is : bytes_eq word (codes "--") ≡ ending
  pub long_is : long_of word ≡ long
  pub short_is : short_of word ≡ short
  pub two_hyphens : has_two_hyphens word ≡ is_some long
  pub hyphened : is_hyphened word ≡ (is_some long || is_some short)

-- each word is one of these
pub data Look (word : Text) : Type 0 where
  is_ending : word ≡ codes "--" → Look word
  is_plain : Looks word false None None → Look word
  is_long : Looks word false (Some (name_in_word word, value_in_word word)) None → Look word
  is_short : (first : ℕ) (flags : Text) → word ≡ 45 ∷ first ∷ flags → Looks word false None (Some (first ∷ flags)) → Look word

isnt_ending : (word : Text) → (word ≡ codes "--" → ⊥) → bytes_eq word (codes "--") ≡ false
isnt_ending word other = by_test (bytes_eq word (codes "--")) (bytes_eq-Decides word (codes "--")).0 where
  by_test : (test : Bool) → (test ≡ true → word ≡ codes "--") → test ≡ false
  by_test true same = absurd (other (same refl))
  by_test false same = refl

no_hyphen : (first : ℕ) → (first == 45) ≡ false → first ≡ 45 → ⊥
no_hyphen first other same = cc (ap (λ (n : ℕ). n == 45) same, other)

look_of_two : (first second : ℕ) (rest : Text) → (one : Bool) → (first == 45) ≡ one → (two : Bool) → (second == 45) ≡ two → Look (first ∷ second ∷ rest)
look_of_two first second rest false one_is two two_is = is_plain (record {
  ending_is = isnt_ending (first ∷ second ∷ rest) (λ same. no_hyphen first one_is (cc));
  long_is = ap (λ (b : Bool). option_and_then long_of_rest (option_and_then (strip_byte 45) (if b then Some (second ∷ rest) else None))) one_is;
  short_is = ap (λ (b : Bool). option_and_then short_of_rest (if b then Some (second ∷ rest) else None)) one_is;
  two_hyphens = ap (λ (b : Bool). b && second == 45) one_is;
  hyphened = one_is;
})
look_of_two first second rest true one_is false two_is =
    let hyphen : 45 ≡ first = sym ((Decides-eqb first 45).0 one_is) in
    subst (λ n. Look (n ∷ second ∷ rest)) hyphen (is_short second rest refl (record {
      ending_is = isnt_ending (45 ∷ second ∷ rest) (λ same. no_hyphen second two_is (cc));
      long_is = ap (λ (b : Bool). option_and_then long_of_rest (if b then Some rest else None)) two_is;
      short_is = ap (λ (b : Bool). if b then None else Some (second ∷ rest)) two_is;
      two_hyphens = two_is;
      hyphened = refl;
    }))
look_of_two first second [] true one_is true two_is =
    is_ending (ap (λ (n : ℕ). n ∷ second ∷ []) ((Decides-eqb first 45).0 one_is) ∙ ap (λ (n : ℕ). 45 ∷ n ∷ []) ((Decides-eqb second 45).0 two_is))
look_of_two first second (third ∷ rest) true one_is true two_is =
    subst (λ n. Look (n ∷ second ∷ third ∷ rest)) (sym ((Decides-eqb first 45).0 one_is))
    (subst (λ n. Look (45 ∷ n ∷ third ∷ rest)) (sym ((Decides-eqb second 45).0 two_is))
    (is_long (record {
      ending_is = isnt_ending (45 ∷ 45 ∷ third ∷ rest) (λ same. cc);
      long_is = refl;
      short_is = refl;
      two_hyphens = refl;
      hyphened = refl;
    })))

pub look_of : (word : Text) → Look word
look_of [] = is_plain (record { ending_is = refl; long_is = refl; short_is = refl; two_hyphens = refl; hyphened = refl })
look_of (first ∷ []) = is_plain (record {
  ending_is = isnt_ending (first ∷ []) (λ same. cc);
  long_is = no_long (first == 45);
  short_is = no_short (first == 45);
  two_hyphens = refl;
  hyphened = refl;
}) where
  no_long : (test : Bool) → option_and_then long_of_rest (option_and_then (strip_byte 45) (if test then Some [] else None)) ≡ None
  no_long true = refl
  no_long false = refl

  no_short : (test : Bool) → option_and_then short_of_rest (if test then Some [] else None) ≡ None
  no_short true = refl
  no_short false = refl
look_of (first ∷ second ∷ rest) = look_of_two first second rest (first == 45) refl (second == 45) refl

one_hyphen : encode_utf8_all (45 ∷ []) ≡ 45 ∷ []
unfolding encode_utf8
one_hyphen = refl

-- behind a hyphen a character begins
pub letter_behind : (first : ℕ) (flags : Text) → IsUtf8 (45 ∷ first ∷ flags) → (letter : ℕ) × (slice_get (chars (first ∷ flags)) 0 ≡ Some letter)
unfolding chars
letter_behind first flags text = by_chars (chars (first ∷ flags)) (λ none.
    let same = chars_from_encodes text.0 (45 ∷ first ∷ flags) text text.1.1 ∙ ap (λ (cs : Text). 45 ∷ cs) none in
    let whole : 45 ∷ [] ≡ 45 ∷ first ∷ flags = sym one_hyphen ∙ sym (ap encode_utf8_all same) ∙ text.1.1 in
    cc (whole)) where
      by_chars : (cs : Text) → (cs ≡ [] → ⊥) → (letter : ℕ) × (slice_get cs 0 ≡ Some letter)
      by_chars [] some = absurd (some refl)
      by_chars (letter ∷ cs) some = (letter, refl)
