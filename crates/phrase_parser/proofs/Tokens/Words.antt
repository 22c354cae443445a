-- Words: their bytes, and which of them are keywords and which are names.
use Rattle.std.proofs.Common.{◌≡◌, ℕ, ◌≤◌, Bool, true, false, not, if◌then◌else◌, List, [], ◌∷◌, length, take, refl, sym, ap, ◌∙◌, subst, true≢false, inl, inr, arith, Option, Some}
use Rattle.std.specs.Prelude.{nat_le, bytes_eq}
use Rattle.std.specs.List.{list_all, list_any, prefix_len}
use Rattle.std.proofs.lemmas.Bool.{and_parts, and_from, or_left, or_cases, leb-true, le-leb}
use Rattle.std.proofs.lemmas.List.Folds.{length-prefix_len}
use Rattle.std.proofs.lemmas.Slice.Eq.{bytes_eq-Decides}
use Rattle.plcs_base.specs.Byte.{is_letter, is_name_byte}
use Rattle.plcs_base.specs.Name.{keywords, is_keyword, is_word, is_name, IsName, longest_name}
use Rattle.plcs_grammar.specs.Token.{begins_with}
use Rattle.phrase_parser.specs.declared.front.Front.{Front}
use Rattle.phrase_parser.specs.declared.token.TokenKind.TheVariants as kind
use Rattle.phrase_parser.specs.Private.Front.{word_front}
use Rattle.phrase_parser.proofs.Tokens.ByteRuns.{run_all, run_first}

-- a letter may follow in a name
pub letter_is_name_byte : (byte : ℕ) → is_letter byte ≡ true → is_name_byte byte ≡ true
letter_is_name_byte byte h = or_left (is_letter byte) _ h

-- each byte of a word may follow in a name
pub word_bytes : (w : List ℕ) → is_word w ≡ true → list_all is_name_byte w ≡ true
word_bytes [] h = refl
word_bytes (first ∷ rest) h =
    let parts = and_parts (is_letter first) (list_all is_name_byte rest) h in
    and_from (is_name_byte first) (list_all is_name_byte rest) (letter_is_name_byte first parts.0) parts.1

-- what holds of each listed word holds of one that is found among them
listed_word : (test : List ℕ → Bool) (w : List ℕ) (words : List (List ℕ)) → list_all test words ≡ true
    → list_any (bytes_eq w) words ≡ true → test w ≡ true
listed_word test w [] all found = absurd cc
listed_word test w (u ∷ words) all found =
    let parts = and_parts (test u) (list_all test words) all in
    elim (or_cases (bytes_eq w u) (list_any (bytes_eq w) words) found) [
      | inl same ↦ ap test ((bytes_eq-Decides w u).0 same) ∙ parts.0
      | inr other ↦ listed_word test w words parts.1 other
    ]

-- a keyword is a word
pub keyword_word : (w : List ℕ) → is_keyword w ≡ true → is_word w ≡ true
unfolding is_keyword
keyword_word w h = listed_word is_word w keywords refl h

-- a keyword has at most 31 bytes
pub keyword_short : (w : List ℕ) → is_keyword w ≡ true → length w ≤ longest_name
unfolding is_keyword
keyword_short w h = leb-true (length w) longest_name (listed_word (λ u. nat_le (length u) longest_name) w keywords refl h)

-- a name is a word
pub name_word : (w : List ℕ) → IsName w → is_word w ≡ true
name_word w h = (and_parts (is_word w) _ h).0

-- a name has at most 31 bytes
pub name_short : (w : List ℕ) → IsName w → length w ≤ longest_name
name_short w h =
    leb-true (length w) longest_name (and_parts (nat_le (length w) longest_name) (not (is_keyword w)) (and_parts (is_word w) _ h).1).0

-- a short word that is no name is a keyword
pub word_no_name : (w : List ℕ) → is_word w ≡ true → nat_le (length w) longest_name ≡ true → is_name w ≡ false → is_keyword w ≡ true
word_no_name w word short h = grind (arith, word, short, h)

-- the run of name bytes at the front of a text that begins with a letter is a word
pub run_is_word : (x : List ℕ) → begins_with is_letter x ≡ true → is_word (take (prefix_len is_name_byte x) x) ≡ true
run_is_word [] letter = absurd (true≢false (sym letter))
run_is_word (first ∷ rest) letter =
    let x = first ∷ rest in
    let others = take (prefix_len is_name_byte rest) rest in
    let begins : is_name_byte first ≡ true = letter_is_name_byte first letter in
    let cut : take (prefix_len is_name_byte x) x ≡ first ∷ others = run_first is_name_byte first rest begins in
    let all : list_all is_name_byte (first ∷ others) ≡ true =
    subst (λ (u : List ℕ). list_all is_name_byte u ≡ true) cut (run_all is_name_byte x) in
    ap is_word cut ∙ and_from (is_letter first) (list_all is_name_byte others) letter (and_parts (is_name_byte first) (list_all is_name_byte others) all).1

-- a word that is short is a name where it is no keyword
short_word : (w : List ℕ) (keyword : Bool) → is_word w ≡ true → length w ≤ longest_name → keyword ≡ is_keyword w → is_name w ≡ not keyword
short_word w keyword word short same = rw (word, le-leb (length w) longest_name short, same) refl

-- the word at the front of a text that begins with a letter is a name where it is no keyword
pub word_kept : (x : List ℕ) (n : ℕ) (keyword : Bool) → begins_with is_letter x ≡ true → n ≡ prefix_len is_name_byte x → n ≤ longest_name
    → keyword ≡ is_keyword (take n x)
    → Some (record { kind = if keyword then kind.Keyword else kind.Name; length = n }) ≡ word_front x
word_kept x n keyword letter counted short same =
    subst (λ (k : ℕ). k ≤ longest_name → keyword ≡ is_keyword (take k x)
    → Some (record { kind = if keyword then kind.Keyword else kind.Name; length = k }) ≡ word_front x)
    (sym counted) kept short same
  where
    own : ℕ
    own = prefix_len is_name_byte x

    by_kind : (b : Bool) → (if b then kind.Keyword else kind.Name) ≡ (if not b then kind.Name else kind.Keyword)
    by_kind true = refl
    by_kind false = refl

    kept : own ≤ longest_name → keyword ≡ is_keyword (take own x)
        → Some (record { kind = if keyword then kind.Keyword else kind.Name; length = own }) ≡ word_front x
    kept short same =
        let named : is_name (take own x) ≡ not keyword =
        short_word (take own x) keyword (run_is_word x letter) (omega (arith, length-prefix_len is_name_byte x, short)) same in
        rw (le-leb own longest_name short, named)
        (ap (λ k. let front : Option Front = Some (record { kind = k; length = own }) in front) (by_kind keyword))
